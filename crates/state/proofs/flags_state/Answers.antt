use mathlib.Core.Path.{◌∙◌}
use Rattle.state.proofs.Laws as laws
use Rattle.state.proofs.flags_state.Goals as goal

pub returns-in_default : goal.returns-in_default
returns-in_default c = c.untold.ensures ∙ laws.flags_nowhere _ _ _ _ c.named.ensures.answer _ _ _ c.in_default.is

pub returns : goal.returns
returns c = c.enabled_by.ensures ∙ laws.flags_at _ _ _ _ c.named.ensures.answer _ c.in-Some.is _ _ _ _ c.two_flags.ensures
