-- For the contracts of private functions only. No promise to a caller rests on these. Assumes nothing.
use Rattle.std.specs.Prelude.{ℕ, Bool, ◌&&◌, eqb}
use Rattle.usb4.specs.Numbers.{device_kind_number}
use Rattle.usb4.specs.declared.Kind.TheVariants as kind
use Rattle.tables.specs.declared.DeviceFacts.{DeviceFacts}

-- a device is a router of the domain at the route
unfoldable pub stands_at : ℕ → ℕ → DeviceFacts → Bool
stands_at domain route d = eqb (device_kind_number d.kind) (device_kind_number kind.Router) && eqb d.domain domain && eqb d.route route
