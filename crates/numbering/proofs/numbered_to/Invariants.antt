use Rattle.numbering.proofs.Laws as laws
use lib.ListN.{length}
use Prim.Native.Nat.{◌-◌, ◌%◌}
use Rattle.numbering.proofs.numbered_to.Given as goal

abbrev pub invariant-loop-i : goal.invariant-loop-i
invariant-loop-i l = laws.Numbering l.survey l.from (l.most % 256) l.number l.i

abbrev pub decreases-loop-i : goal.decreases-loop-i
decreases-loop-i l = length l.survey - l.i
