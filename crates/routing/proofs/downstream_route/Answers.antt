use Rattle.fabric.specs.Links.{downstream_route_of}
use Rattle.devices.specs.Calls.{downstream_route_answer}
use Rattle.routing.proofs.downstream_route.Goals as goal

pub returns : goal.returns
unfolding downstream_route_answer
returns c = c.ask.ensures (downstream_route_of c.args.site.place) (λ d a r h. h.2)
