use lib.ListN.{length}
use native.Mathlib.Omega.{arith}
use borrow.Author.Tests.{le-ltb}
use Rattle.util.specs.Number.{number_of}
use Rattle.util.proofs.digits.Goals as goal

pub returns-then-s-lt1 : goal.returns-then-s-lt1
unfolding number_of
returns-then-s-lt1 c = simp (le-ltb 0 (length c.args.s.now) (omega arith))
