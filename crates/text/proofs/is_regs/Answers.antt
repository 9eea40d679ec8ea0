use mathlib.Core.Path.{sym, ap}
use Rattle.markers.specs.Markers.{marker_by}
use Rattle.text.specs.Text.{is_regs}
use Rattle.text.proofs.Sections.{not_regs}
use Rattle.text.proofs.is_regs.Goals as goal

pub returns-in-Regs : goal.returns-in-Regs
unfolding is_regs marker_by
returns-in-Regs c = ap (λ m. is_regs (marker_by m)) (sym c.in-Regs.is)

pub returns-in_default : goal.returns-in_default
returns-in_default c = not_regs _ c.in_default.not-Regs
