use Rattle.discovery.specs.Work.{Idle}
use Rattle.discovery.proofs.Rings.{Counted, Putting}
use Rattle.discovery.proofs.tally_rings.Given as goal

abbrev pub invariant-loop-ring : goal.invariant-loop-ring
invariant-loop-ring l = Counted l.rings.tables l.rings.site.place l.rings.site.adapter l.end l.need l.ring × Idle l.rings.tables l.rings.site.place l.rings.site.adapter l.idle × Putting l.rings.tables l.rings.site.place l.rings.site.adapter l.end l.initial.draft l.at l.ring l.draft
