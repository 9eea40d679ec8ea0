use borrow.Author.Tests.{eq-eqb, ne_eqb}
use Rattle.route.specs.Route.{downstream_adapter}
use Rattle.route.proofs.downstream_adapter.Goals as goal

pub returns-then-domain-device_domain : goal.returns-then-domain-device_domain
unfolding downstream_adapter
returns-then-domain-device_domain c = simp (ne_eqb _ _ c.if-domain-device_domain.true)

pub returns : goal.returns
unfolding downstream_adapter
returns c = simp (eq-eqb _ _ c.if-domain-device_domain.false) c.adapter_beneath.ensures
