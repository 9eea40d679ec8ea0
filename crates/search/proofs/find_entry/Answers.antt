use Rattle.tables.proofs.Laws.{entry_past, entry_missing, entry_found_lem}
use native.Mathlib.Omega.{arith}
use Rattle.search.proofs.find_entry.Goals as goal

pub returns-then-place-gt65535 : goal.returns-then-place-gt65535
returns-then-place-gt65535 c = entry_past _ _ _ _ c.if-place-gt65535.true

pub returns-then-entries-i : goal.returns-then-entries-i
returns-then-entries-i c = let a = c.args in
    entry_missing a.entries.now a.stand.place a.stand.adapter a.stand.hop_id _ (omega arith) (omega arith) (omega arith) c.seek-i.ensures (λ l. absurd (omega arith))

pub returns-then-w-key : goal.returns-then-w-key
returns-then-w-key c = let a = c.args in
    entry_missing a.entries.now a.stand.place a.stand.adapter a.stand.hop_id _ (omega arith) (omega arith) (omega arith) c.seek-i.ensures (λ l. c.if-w-key.true)

pub returns : goal.returns
returns c = let a = c.args in
    rw c.out_of.ensures (entry_found_lem a.entries.now a.stand.place a.stand.adapter a.stand.hop_id _ (omega arith) (omega arith) (omega arith) c.seek-i.ensures c.if-entries-i.false c.if-w-key.false)
