use mathlib.Core.Path.{◌≡◌}
use lib.ListN.{drop}
use Rattle.discovery.specs.Work.{among, out_hops}
use Rattle.discovery.proofs.leaves_by.Given as goal

abbrev pub invariant-loop-entry : goal.invariant-loop-entry
invariant-loop-entry l = among l.hop (out_hops l.entries) ≡ among l.hop (out_hops (drop l.entry-index l.entries))
