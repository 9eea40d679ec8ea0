use native.Mathlib.Omega.{arith}
use Prim.Native.Nat.{◌≤◌, ◌-◌}
use borrow.Author.Tests.{eq-eqb, ne_eqb}
use lib.ListN.{length, drop, get_or-eq_default, length-drop}
use lib.Seq.{take_all}
use Rattle.util.specs.Number.{after_plus}
use Rattle.util.proofs.after_plus.Goals as goal

pub returns-then-s-lt1 : goal.returns-then-s-lt1
unfolding after_plus
returns-then-s-lt1 c = let s = c.args.s.now in
    let h : length s ≤ 0 = omega arith in
    simp (get_or-eq_default s 0 h)

pub returns-then-s-ne43 : goal.returns-then-s-ne43
unfolding after_plus
returns-then-s-ne43 c = simp (ne_eqb _ _ c.if-s-ne43.true)

pub returns : goal.returns
unfolding after_plus
returns c = let s = c.args.s.now in
    simp (eq-eqb _ _ c.if-s-ne43.false)
    (take_all (length s - 1) (drop 1 s) (omega (arith, length-drop 1 s)))
