use lib.ListN.{length}
use Prim.Native.Nat.{◌-◌}
use Rattle.state.proofs.Laws as laws
use Rattle.state.proofs.by_offset.Given as goal

abbrev pub invariant-loop-i : goal.invariant-loop-i
invariant-loop-i l = laws.Seeking l.survey l.from l.offset l.i

abbrev pub decreases-loop-i : goal.decreases-loop-i
decreases-loop-i l = length l.survey - l.i
