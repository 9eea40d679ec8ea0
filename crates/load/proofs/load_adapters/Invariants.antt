use Rattle.load.proofs.Joining.{Adapting}
use Rattle.load.specs.Loading.{and_then, load_adapters}
use Rattle.listing.specs.After.{after}
use Rattle.layout.specs.Description.{descriptions_of}
use Rattle.refusal.specs.Outcome.{value}
use lib.ListN.{length}
use Prim.Native.Nat.{◌-◌}
use Rattle.load.proofs.load_adapters.Given as goal

abbrev pub invariant-loop-i : goal.invariant-loop-i
invariant-loop-i l = Adapting (descriptions_of l.descriptions) l.place l.usb4 l.survey l.from (and_then (value l.initial.rows) (load_adapters (descriptions_of l.descriptions) l.place l.usb4 (after l.survey l.from).adapters)) l.rows l.i

abbrev pub decreases-loop-i : goal.decreases-loop-i
decreases-loop-i l = length l.survey - l.i
