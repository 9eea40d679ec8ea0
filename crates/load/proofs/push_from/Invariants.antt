use Rattle.usb4.specs.Numbers.{type_number}
use Rattle.layout.specs.Description.{descriptions_of}
use lib.ListN.{length}
use Prim.Native.Nat.{◌-◌}
use Rattle.load.specs.Work.{KeptFor}
use Rattle.load.proofs.Entries.{Pushing}
use Rattle.load.proofs.push_from.Given as goal

abbrev pub invariant-loop-i : goal.invariant-loop-i
invariant-loop-i l = Pushing (descriptions_of l.descriptions) l.site (type_number l.kind) l.least l.survey l.from l.initial.rows l.rows l.at l.i × KeptFor (descriptions_of l.descriptions) (type_number l.kind) l.kept

abbrev pub decreases-loop-i : goal.decreases-loop-i
decreases-loop-i l = length l.survey - l.i
