use Rattle.register.specs.Line.{is_comment}
use lib.ListN.{length, get_or-eq_default}
use Prim.Native.Nat.{◌≤◌}
use native.Mathlib.Omega.{arith}
use mathlib.Core.Path.{refl}
use Rattle.register.proofs.is_comment.Goals as goal

pub returns-then-s-lt1 : goal.returns-then-s-lt1
unfolding is_comment
returns-then-s-lt1 c = let s = c.args.s.now in
    let h : length s ≤ 0 = omega arith in
    simp (get_or-eq_default s 0 h)

pub returns : goal.returns
unfolding is_comment
returns c = refl
