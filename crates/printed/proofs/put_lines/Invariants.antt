use Prim.Native.Nat.{◌-◌}
use lib.ListN.{length}
use Rattle.printed.proofs.Laws.{PutSo}
use Rattle.printed.proofs.put_lines.Given as goal

abbrev pub invariant-loop-i : goal.invariant-loop-i
invariant-loop-i l = PutSo l.words l.initial.out l.at l.i l.out

abbrev pub decreases-loop-i : goal.decreases-loop-i
decreases-loop-i l = length l.words - l.i
