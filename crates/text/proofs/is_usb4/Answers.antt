use mathlib.Core.Path.{sym, ap}
use Rattle.markers.specs.Markers.{marker_by}
use Rattle.text.specs.Text.{is_usb4}
use Rattle.text.proofs.Sections.{not_usb4}
use Rattle.text.proofs.is_usb4.Goals as goal

pub returns-in-Usb4 : goal.returns-in-Usb4
unfolding is_usb4 marker_by
returns-in-Usb4 c = ap (λ m. is_usb4 (marker_by m)) (sym c.in-Usb4.is)

pub returns-in_default : goal.returns-in_default
returns-in_default c = not_usb4 _ c.in_default.not-Usb4
