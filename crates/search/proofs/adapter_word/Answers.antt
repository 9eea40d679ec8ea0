use Rattle.tables.proofs.Laws.{adapter_past, adapter_missing, adapter_found_lem}
use Rattle.search.proofs.Lanes.{word_nowhere, word_found}
use native.Mathlib.Omega.{arith}
use Rattle.search.proofs.adapter_word.Goals as goal

-- `search::adapter_word` meets its contract.
pub returns-then-place-gt65535 : goal.returns-then-place-gt65535
returns-then-place-gt65535 c = word_nowhere _ _ _ (adapter_past _ _ _ c.if-place-gt65535.true)

pub returns-then-adapters-i : goal.returns-then-adapters-i
returns-then-adapters-i c = let a = c.args in
    word_nowhere _ _ _ (adapter_missing a.adapters.now a.place a.number _ (omega arith) (omega arith) c.seek-i.ensures (λ l. absurd (omega arith)))

pub returns-then-w-key : goal.returns-then-w-key
returns-then-w-key c = let a = c.args in
    word_nowhere _ _ _ (adapter_missing a.adapters.now a.place a.number _ (omega arith) (omega arith) c.seek-i.ensures (λ l. c.if-w-key.true))

pub returns : goal.returns
returns c = let a = c.args in
    word_found _ _ _ _ (λ f g. adapter_found_lem a.adapters.now a.place a.number _ (omega arith) (omega arith) c.seek-i.ensures f c.if-adapters-i.false c.if-w-key.false g)
