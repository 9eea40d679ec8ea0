use Rattle.std.proofs.Common.{◌≡◌, ◌∙◌, sym, ap, length, arith}
use Rattle.std.specs.Prelude.{Some}
use Rattle.std.proofs.lemmas.List.{set-get_or}
use native.Mathlib.Nat.{lt_of_le_of_lt}
use lib.Dec.{lit<}
use Rattle.util.proofs.Laws.{hex_le}
use Rattle.cases.proofs.Laws.{words_first, words_turn, words_bad, words_all, words_more}
use Rattle.cases.proofs.line.words.Goals as goal

pub loop-i-init : goal.loop-i-init
loop-i-init c = words_first _ _ c.token-token.result c.token-token.ensures

pub returns-then-is_empty-clause-words : goal.returns-then-is_empty-clause-words
returns-then-is_empty-clause-words c = set-get_or _ _ _ ∙ (words_all c.token-token-in-loop-i.result c.token-token-in-loop-i.ensures c.loop-i.invariant (sym c.is_empty.ensures ∙ c.if-is_empty.true)).0

pub returns-then-is_empty-clause-number : goal.returns-then-is_empty-clause-number
returns-then-is_empty-clause-number c = (words_all c.token-token-in-loop-i.result c.token-token-in-loop-i.ensures c.loop-i.invariant (sym c.is_empty.ensures ∙ c.if-is_empty.true)).1 _ (omega (arith, c.loop-i-test.true))

pub returns-in_err-w-clause-words : goal.returns-in_err-w-clause-words
returns-in_err-w-clause-words c = set-get_or _ _ _ ∙ (words_bad c.token-token-in-loop-i.result c.token-token-in-loop-i.ensures c.loop-i.invariant (sym c.is_empty.ensures ∙ c.if-is_empty.false) (sym c.parse_hex.ensures ∙ c.in_err-w.was)).0

pub returns-in_err-w-clause-number : goal.returns-in_err-w-clause-number
returns-in_err-w-clause-number c = c.from_residual.ensures ∙ (words_bad c.token-token-in-loop-i.result c.token-token-in-loop-i.ensures c.loop-i.invariant (sym c.is_empty.ensures ∙ c.if-is_empty.false) (sym c.parse_hex.ensures ∙ c.in_err-w.was)).1 _

pub overflow_cast-slot : goal.overflow_cast-slot
overflow_cast-slot c = record { fits = lt_of_le_of_lt (hex_le 4294967295 _ c.in_ok-w.w (sym c.parse_hex.ensures ∙ c.in_ok-w.was)) (lit< tt) }

pub loop-i-preserved : goal.loop-i-preserved
loop-i-preserved c = words_turn c.token-token-in-loop-i.result c.token-token-in-loop-i.ensures c.loop-i.invariant (sym c.is_empty.ensures ∙ c.if-is_empty.false) c.in_ok-w.w (sym c.parse_hex.ensures ∙ c.in_ok-w.was) (omega (arith, c.loop-i-test.true, c.loop-i.auto.out))

pub returns-then-is_empty-2-clause-words : goal.returns-then-is_empty-2-clause-words
returns-then-is_empty-2-clause-words c = (words_all c.token-token-2.result c.token-token-2.ensures c.loop-i.invariant (sym c.is_empty-2.ensures ∙ c.if-is_empty-2.true)).0

pub returns-then-is_empty-2-clause-number : goal.returns-then-is_empty-2-clause-number
returns-then-is_empty-2-clause-number c = let e : length c.loop-i.out ≡ c.loop-i.i = omega (arith, c.loop-i-test.false, c.loop-i.auto.i-end, c.loop-i.auto.out) in
    ap (λ n. Some n) e ∙ (words_all c.token-token-2.result c.token-token-2.ensures c.loop-i.invariant (sym c.is_empty-2.ensures ∙ c.if-is_empty-2.true)).1 _ (omega (arith, c.loop-i.auto.i-end))

pub returns-else-is_empty-2-clause-words : goal.returns-else-is_empty-2-clause-words
returns-else-is_empty-2-clause-words c = (words_more c.token-token-2.result c.token-token-2.ensures c.loop-i.invariant (sym c.is_empty-2.ensures ∙ c.if-is_empty-2.false) (omega (arith, c.loop-i-test.false, c.loop-i.auto.out))).0

pub returns-else-is_empty-2-clause-number : goal.returns-else-is_empty-2-clause-number
returns-else-is_empty-2-clause-number c = (words_more c.token-token-2.result c.token-token-2.ensures c.loop-i.invariant (sym c.is_empty-2.ensures ∙ c.if-is_empty-2.false) (omega (arith, c.loop-i-test.false, c.loop-i.auto.out))).1 _ (omega (arith, c.loop-i-test.false))
