use Prim.Native.Nat.{◌-◌}
use lib.ListN.{length}
use Rattle.named.proofs.Spans as spans
use Rattle.named.proofs.offsets_named.Given as goal

abbrev pub invariant-loop-i : goal.invariant-loop-i
invariant-loop-i l = spans.Counting l.descriptions l.name l.o l.i

abbrev pub decreases-loop-i : goal.decreases-loop-i
decreases-loop-i l = length l.descriptions - l.i
