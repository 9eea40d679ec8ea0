use lib.ListN.{length}
use Prim.Native.Nat.{◌-◌}
use Rattle.capabilities.proofs.Heads as laws
use Rattle.capabilities.proofs.find_head.Given as goal

abbrev pub invariant-loop-i : goal.invariant-loop-i
invariant-loop-i l = laws.Placing l.survey l.site.place l.site.adapter l.left l.i

abbrev pub decreases-loop-i : goal.decreases-loop-i
decreases-loop-i l = length l.survey - l.i
