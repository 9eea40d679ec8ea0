use Prim.Native.Nat.{◌≤◌, ◌-◌}
use mathlib.Core.Path.{◌≡◌}
use lib.ListN.{length, drop}
use Rattle.survey.specs.Words.{groups_of}
use Rattle.survey.specs.Rules.{start, first_bad}
use Rattle.wellformed.proofs.check.Given as goal

abbrev pub invariant-loop-i : goal.invariant-loop-i
invariant-loop-i l = (l.i ≤ length l.survey) × (first_bad 0 start (groups_of l.survey) ≡ first_bad l.i l.u (groups_of (drop l.i l.survey)))

abbrev pub decreases-loop-i : goal.decreases-loop-i
decreases-loop-i l = length l.survey - l.i
