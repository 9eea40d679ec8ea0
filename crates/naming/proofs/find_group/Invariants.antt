use Prim.Native.Nat.{◌-◌}
use lib.ListN.{length}
use Rattle.naming.proofs.Naming as naming
use Rattle.naming.proofs.find_group.Given as goal

abbrev pub invariant-loop-i : goal.invariant-loop-i
invariant-loop-i l = naming.Finding l.descriptions l.q l.found l.i

abbrev pub decreases-loop-i : goal.decreases-loop-i
decreases-loop-i l = length l.descriptions - l.i
