use Prim.Native.Nat.{◌-◌, ◌<◌}
use lib.ListN.{length}
use Rattle.metadata.proofs.Places as places
use Rattle.metadata.proofs.stands_at.Given as goal

abbrev pub invariant-loop-i : goal.invariant-loop-i
invariant-loop-i l = places.Seeking l.t l.place l.i × (l.place < length l.t)

abbrev pub decreases-loop-i : goal.decreases-loop-i
decreases-loop-i l = l.place - l.i
