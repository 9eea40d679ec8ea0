use Prim.Native.Nat.{◌-◌, ◌≤◌, ◌<◌}
use lib.ListN.{length, get_or}
use Rattle.boundary.proofs.seek.Given as goal

abbrev pub invariant-loop-lo : goal.invariant-loop-lo
invariant-loop-lo l = (l.lo ≤ l.hi) × (l.hi ≤ length l.table) × (0 < l.lo → get_or l.table (l.lo - 1) 0 < l.bound) × (l.hi < length l.table → l.bound ≤ get_or l.table l.hi 0)

abbrev pub decreases-loop-lo : goal.decreases-loop-lo
decreases-loop-lo l = l.hi - l.lo
