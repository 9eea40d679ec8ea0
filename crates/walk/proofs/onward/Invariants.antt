use Prim.Native.Nat.{◌+◌}
use mathlib.Core.Path.{◌≡◌}
use lib.ListN.{length}
use Rattle.walk.proofs.Turns.{Kept}
use Rattle.walk.proofs.onward.Given as goal

abbrev pub invariant-loop-left : goal.invariant-loop-left
invariant-loop-left l = Kept l.tables l.place l.fn.out.out_adapter l.fn.out.out_hop l.hops l.p l.a l.h × (l.left + l.hops ≡ length l.tables.entries.now)

abbrev pub decreases-loop-left : goal.decreases-loop-left
decreases-loop-left l = l.left
