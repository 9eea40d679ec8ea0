use mathlib.Core.Path.{◌∙◌, ap}
use Rattle.text.specs.Text.{is_regs, path_mark}
use Rattle.text.proofs.Sections.{adapter_is}
use Rattle.text.proofs.adapter_head.Goals as goal

pub returns : goal.returns
returns c = rw c.from.ensures (adapter_is _ _ _ _ _ (c.is_regs-read.ensures ∙ ap is_regs c.mark_at.ensures) c.past_mark-second.ensures.sections (c.path_mark-paths.ensures.0 ∙ ap path_mark c.mark_at-2.ensures))
