use lib.Dec.{eqb}
use mathlib.Core.Path.{sym, ap}
use Rattle.parents.specs.Parents.{is_xdomain}
use Rattle.tables.specs.Packed.{device_row}
use Rattle.usb4.specs.Numbers.{device_kind_number}
use Rattle.receive.specs.Receive.{taken}
use Rattle.receive.proofs.Lanes.{no_xdomain}
use Rattle.receive.proofs.taken.Goals as goal

pub returns-in-Xdomain : goal.returns-in-Xdomain
unfolding taken is_xdomain device_row
returns-in-Xdomain c = λ p. sym (ap (λ k. eqb (device_kind_number k) 2) c.in-Xdomain.is)

pub returns-in_default : goal.returns-in_default
unfolding taken is_xdomain device_row
returns-in_default c = λ p. no_xdomain _ c.in_default.not-Xdomain
