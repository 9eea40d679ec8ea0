use Rattle.std.proofs.Common.{ℕ, Bool, ◌≡◌, ◌-◌, length}
use Rattle.scan.specs.Scan.{place_from}
use Rattle.scan.specs.Work.{Tests}
use Rattle.scan.proofs.place.Given as goal

abbrev pub invariant-loop-i : goal.invariant-loop-i
invariant-loop-i g l = (p : ℕ → Bool) → Tests (goal.F-post g l.fn.sought) p → place_from p l.s l.at ≡ place_from p l.s l.i

abbrev pub decreases-loop-i : goal.decreases-loop-i
decreases-loop-i g l = length l.s - l.i
