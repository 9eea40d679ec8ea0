use Rattle.std.proofs.Common.{◌≡◌, ◌∙◌, sym, ap, ◌/◌, length, arith}
use Rattle.std.specs.Prelude.{Some}
use native.Mathlib.Nat.{lt_of_le_of_lt}
use lib.Dec.{lit<}
use Rattle.util.proofs.Laws.{hex_le}
use Rattle.cases.proofs.Laws.{fit_odd, fit_long, fits, no_fit, pairs_turn, pairs_bad, pairs_all}
use Rattle.cases.proofs.line.pairs.Goals as goal

pub returns-then-hex-eq1-clause-bytes : goal.returns-then-hex-eq1-clause-bytes
returns-then-hex-eq1-clause-bytes c = (no_fit c.args.hex.now c.args.out.now _ (fit_odd _ _ c.if-hex-eq1.true)).0

pub returns-then-hex-eq1-clause-number : goal.returns-then-hex-eq1-clause-number
returns-then-hex-eq1-clause-number c = (no_fit c.args.hex.now c.args.out.now _ (fit_odd _ _ c.if-hex-eq1.true)).1

pub returns-then-out-n-clause-bytes : goal.returns-then-out-n-clause-bytes
returns-then-out-n-clause-bytes c = (no_fit c.args.hex.now c.args.out.now _ (fit_long _ _ c.if-out-n.true)).0

pub returns-then-out-n-clause-number : goal.returns-then-out-n-clause-number
returns-then-out-n-clause-number c = (no_fit c.args.hex.now c.args.out.now _ (fit_long _ _ c.if-out-n.true)).1

pub returns-in_err-b-clause-bytes : goal.returns-in_err-b-clause-bytes
returns-in_err-b-clause-bytes c = (pairs_bad _ _ _ _ (length c.args.out.now) c.loop-i.invariant (omega (arith, c.loop-i-test.true)) (sym c.in_err-b.was ∙ c.parse_hex.ensures) (fits _ _ c.if-hex-eq1.false (omega (arith, c.if-out-n.false)))).0

pub returns-in_err-b-clause-number : goal.returns-in_err-b-clause-number
returns-in_err-b-clause-number c = c.from_residual.ensures ∙ (pairs_bad _ _ _ _ (length c.args.out.now) c.loop-i.invariant (omega (arith, c.loop-i-test.true)) (sym c.in_err-b.was ∙ c.parse_hex.ensures) (fits _ _ c.if-hex-eq1.false (omega (arith, c.if-out-n.false)))).1

pub overflow_cast-out : goal.overflow_cast-out
overflow_cast-out c = record { fits = lt_of_le_of_lt (hex_le 255 _ c.in_ok-b.b (sym c.parse_hex.ensures ∙ c.in_ok-b.was)) (lit< tt) }

pub loop-i-preserved : goal.loop-i-preserved
loop-i-preserved c = pairs_turn _ _ _ _ 0 c.loop-i.invariant (omega (arith, c.loop-i-test.true)) c.in_ok-b.b (sym c.in_ok-b.was ∙ c.parse_hex.ensures) (omega (arith, c.loop-i-test.true, c.if-out-n.false, c.loop-i.auto.out))

pub returns-clause-bytes : goal.returns-clause-bytes
returns-clause-bytes c = (pairs_all _ _ _ _ (length c.args.out.now) c.loop-i.invariant (omega (arith, c.loop-i-test.false, c.if-hex-eq1.false)) (omega (arith, c.loop-i-test.false, c.loop-i.auto.i-end)) (fits _ _ c.if-hex-eq1.false (omega (arith, c.if-out-n.false)))).0

pub returns-clause-number : goal.returns-clause-number
returns-clause-number c = let e : c.loop-i.i ≡ length c.args.hex.now / 2 = omega (arith, c.loop-i-test.false, c.loop-i.auto.i-end) in
    ap (λ n. Some n) (sym e) ∙ (pairs_all _ _ _ _ (length c.args.out.now) c.loop-i.invariant (omega (arith, c.loop-i-test.false, c.if-hex-eq1.false)) e (fits _ _ c.if-hex-eq1.false (omega (arith, c.if-out-n.false)))).1
