use Rattle.printed.proofs.Laws.{CountedSo}
use Prim.Native.Nat.{◌-◌}
use lib.ListN.{length}
use Rattle.printed.proofs.tunnels.Given as goal

abbrev pub invariant-loop-i : goal.invariant-loop-i
invariant-loop-i l = CountedSo l.words l.i l.n

abbrev pub decreases-loop-i : goal.decreases-loop-i
decreases-loop-i l = length l.words - l.i
