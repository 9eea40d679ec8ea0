use Rattle.fabric.specs.Links.{upstream_route_of}
use Rattle.devices.specs.Calls.{upstream_route_answer}
use Rattle.routing.proofs.upstream_route.Goals as goal

pub returns : goal.returns
unfolding upstream_route_answer
returns c = c.ask.ensures (upstream_route_of c.args.site.place) (λ d a r h. h.2)
