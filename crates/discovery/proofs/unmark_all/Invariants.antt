use mathlib.Core.Path.{◌≡◌}
use lib.ListN.{length}
use Rattle.discovery.proofs.Quiet.{Sparing}
use Rattle.discovery.proofs.unmark_all.Given as goal

abbrev pub invariant-loop-entry : goal.invariant-loop-entry
invariant-loop-entry l = Sparing l.entries l.fn.site.place l.fn.site.adapter l.entry-index l.idle × (length l.idle ≡ length l.initial.idle)
