use mathlib.Core.Path.{sym, ap, ◌∙◌}
use Rattle.refusal.specs.Refusal.{refusal_of, at}
use Rattle.refusals.specs.Told.{refused_as, values_of, sited_as}
use Rattle.refusals.proofs.of_fault.Goals as goal

pub returns-in-FewRegisters : goal.returns-in-FewRegisters
unfolding refused_as values_of sited_as refusal_of at
returns-in-FewRegisters c = ap refused_as c.sited.ensures ∙ sym (ap refusal_of c.in-FewRegisters.is)

pub returns-in-NoField : goal.returns-in-NoField
unfolding refused_as values_of sited_as refusal_of at
returns-in-NoField c = ap refused_as c.sited-in-NoField.ensures ∙ sym (ap refusal_of c.in-NoField.is)

pub returns-in-BadAdapters : goal.returns-in-BadAdapters
unfolding refused_as values_of sited_as refusal_of at
returns-in-BadAdapters c = sym (ap refusal_of c.in-BadAdapters.is)

pub returns-in-GenTOffset : goal.returns-in-GenTOffset
unfolding refused_as values_of sited_as refusal_of at
returns-in-GenTOffset c = ap refused_as c.sited-in-GenTOffset.ensures ∙ sym (ap refusal_of c.in-GenTOffset.is)

pub returns-in-NoPathDump : goal.returns-in-NoPathDump
unfolding refused_as values_of sited_as refusal_of at
returns-in-NoPathDump c = ap refused_as c.sited-in-NoPathDump.ensures ∙ sym (ap refusal_of c.in-NoPathDump.is)

pub returns-in-NoOutAdapter : goal.returns-in-NoOutAdapter
unfolding refused_as values_of sited_as refusal_of at
returns-in-NoOutAdapter c = ap refused_as c.sited-in-NoOutAdapter.ensures ∙ sym (ap refusal_of c.in-NoOutAdapter.is)

pub returns-in-NoParentRoute : goal.returns-in-NoParentRoute
unfolding refused_as values_of sited_as refusal_of at
returns-in-NoParentRoute c = ap refused_as c.sited-in-NoParentRoute.ensures ∙ sym (ap refusal_of c.in-NoParentRoute.is)

pub returns-in-NoDownstreamRoute : goal.returns-in-NoDownstreamRoute
unfolding refused_as values_of sited_as refusal_of at
returns-in-NoDownstreamRoute c = ap refused_as c.sited-in-NoDownstreamRoute.ensures ∙ sym (ap refusal_of c.in-NoDownstreamRoute.is)

pub returns-in-Endless : goal.returns-in-Endless
unfolding refused_as values_of sited_as refusal_of at
returns-in-Endless c = sym (ap refusal_of c.in-Endless.is)
