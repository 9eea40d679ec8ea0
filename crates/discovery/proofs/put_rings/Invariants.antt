use Rattle.discovery.proofs.Rings.{Putting}
use Rattle.discovery.proofs.put_rings.Given as goal

abbrev pub invariant-loop-ring : goal.invariant-loop-ring
invariant-loop-ring l = Putting l.rings.tables l.rings.site.place l.rings.site.adapter l.end l.initial.output l.at l.ring l.output
