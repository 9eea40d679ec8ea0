use Rattle.util.specs.Text.{bytes_of}
use mathlib.Core.Path.{◌∙◌}
use Rattle.state.proofs.Laws as laws
use Rattle.state.proofs.pcie_state.Goals as goal

pub returns-in_default : goal.returns-in_default
unfolding bytes_of
returns-in_default c = c.untold.ensures ∙ laws.flag_nowhere _ _ _ _ c.named.ensures.answer _ _ c.in_default.is

pub returns : goal.returns
unfolding bytes_of
returns c = c.enabled_by.ensures ∙ laws.flag_at _ _ _ _ c.named.ensures.answer _ c.in-Some.is _ _ _ c.flag.ensures
