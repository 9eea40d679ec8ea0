use mathlib.Core.Path.{◌∙◌, ap}
use Rattle.text.specs.Text.{is_usb4, is_regs}
use Rattle.text.proofs.Sections.{device_is}
use Rattle.text.proofs.device_head.Goals as goal

pub returns : goal.returns
returns c = rw (c.from.ensures, c.from-2.ensures, c.from-3.ensures) (device_is _ _ _ _ _ (c.is_usb4-usb4.ensures ∙ ap is_usb4 c.mark_at.ensures) c.past_mark-second.ensures.sections (c.is_regs-read.ensures ∙ ap is_regs c.mark_at-2.ensures))
