use Rattle.listing.proofs.Laws.{Ahead}
use Prim.Native.Nat.{◌-◌}
use lib.ListN.{length}
use Rattle.listing.proofs.next_head.Given as goal

abbrev pub invariant-loop-i : goal.invariant-loop-i
invariant-loop-i l = Ahead l.survey l.from l.i

abbrev pub decreases-loop-i : goal.decreases-loop-i
decreases-loop-i l = length l.survey - l.i
