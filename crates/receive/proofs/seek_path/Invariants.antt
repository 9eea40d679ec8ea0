use Prim.Native.Nat.{◌-◌}
use mathlib.Core.Path.{◌≡◌}
use Rattle.std.specs.Prelude.{Ok}
use lib.ListN.{length}
use Rattle.receive.specs.declared.Received.TheVariants as received
use Rattle.receive.proofs.Search.{Seeking, Among}
use Rattle.receive.proofs.seek_path.Given as goal

abbrev pub invariant-loop-hop : goal.invariant-loop-hop
invariant-loop-hop l = Among l.tables l.ring l.i l.place l.adapter l.hop l.most l.noted l.notes × (length l.notes ≡ length l.initial.notes) × (l.found ≡ Ok received.Nothing)

abbrev pub decreases-loop-hop : goal.decreases-loop-hop
decreases-loop-hop l = 65536 - l.hop

abbrev pub invariant-rx_path : goal.invariant-rx_path
invariant-rx_path l = Seeking l.tables l.ring l.i l.noted l.notes × (length l.notes ≡ length l.initial.notes) × (l.found ≡ Ok received.Nothing)
