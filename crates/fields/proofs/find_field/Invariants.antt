use Prim.Native.Nat.{◌-◌}
use lib.ListN.{length}
use Rattle.fields.proofs.Names as names
use Rattle.fields.proofs.find_field.Given as goal

abbrev pub invariant-loop-i : goal.invariant-loop-i
invariant-loop-i l = names.Fields l.descriptions l.place l.name l.i

abbrev pub decreases-loop-i : goal.decreases-loop-i
decreases-loop-i l = length l.descriptions - l.i
