use Prim.Native.Nat.{◌-◌}
use lib.ListN.{length}
use Rattle.named.proofs.Laws as laws
use Rattle.named.proofs.by_name.Given as goal

abbrev pub invariant-loop-i : goal.invariant-loop-i
invariant-loop-i l = laws.Seeking l.descriptions l.space l.kind l.name l.survey l.from l.i

abbrev pub decreases-loop-i : goal.decreases-loop-i
decreases-loop-i l = length l.survey - l.i
