use Rattle.load.proofs.Joining.{Filling}
use Rattle.load.specs.Loading.{load_from}
use Rattle.survey.specs.Devices.{devices_of}
use Rattle.layout.specs.Description.{descriptions_of}
use lib.ListN.{length}
use Prim.Native.Nat.{◌-◌}
use Rattle.load.proofs.fill.Given as goal

abbrev pub invariant-loop-i : goal.invariant-loop-i
invariant-loop-i l = Filling (descriptions_of l.descriptions) l.survey (load_from (descriptions_of l.descriptions) 0 (devices_of l.survey)) l.rows l.i

abbrev pub decreases-loop-i : goal.decreases-loop-i
decreases-loop-i l = length l.survey - l.i
