use Rattle.description.proofs.Laws as laws
use Prim.Native.Nat.{◌-◌, ◌≤◌}
use lib.ListN.{length}
use Rattle.description.proofs.check.Given as goal

abbrev pub invariant-loop-i : goal.invariant-loop-i
invariant-loop-i l = laws.Checking l.descriptions l.i × (length l.descriptions ≤ 16384)

abbrev pub decreases-loop-i : goal.decreases-loop-i
decreases-loop-i l = length l.descriptions - l.i
