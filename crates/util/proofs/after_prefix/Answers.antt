use native.Mathlib.Omega.{arith}
use Prim.Native.Nat.{◌≤◌, ◌-◌}
use lib.ListN.{length, drop, get_or-eq_default, length-drop}
use lib.Seq.{take_all}
use Rattle.util.proofs.Laws.{and_false}
use borrow.Author.Tests.{eq-eqb, ne_eqb}
use Rattle.util.specs.Number.{after_prefix}
use Rattle.util.proofs.after_prefix.Goals as goal

pub returns-then-s-lt2 : goal.returns-then-s-lt2
unfolding after_prefix
returns-then-s-lt2 c = let s = c.args.s.now in
    let h : length s ≤ 1 = omega arith in
    simp (get_or-eq_default s 0 h, and_false)

pub returns-then-s-ne48 : goal.returns-then-s-ne48
unfolding after_prefix
returns-then-s-ne48 c = simp (ne_eqb _ _ c.if-s-ne48.true)

pub returns-then-s-ne120 : goal.returns-then-s-ne120
unfolding after_prefix
returns-then-s-ne120 c = simp (eq-eqb _ _ c.if-s-ne48.false, ne_eqb _ _ c.if-s-ne120.true)

pub returns : goal.returns
unfolding after_prefix
returns c = let s = c.args.s.now in
    simp (eq-eqb _ _ c.if-s-ne48.false, eq-eqb _ _ c.if-s-ne120.false)
    (take_all (length s - 2) (drop 2 s) (omega (arith, length-drop 2 s)))
