use mathlib.Core.Path.{◌∙◌}
use Rattle.markers.proofs.Laws.{same_lem}
use Rattle.markers.proofs.is_text.Goals as goal

pub returns : goal.returns
returns c = c.eq.ensures ∙ same_lem _ _
