use Rattle.std.proofs.lemmas.Result.{err_from_is_err_and}
use mathlib.Core.Path.{ap, ◌∙◌}
use Prim.Native.Nat.{ℕ}
use Rattle.refusal.specs.Outcome.{Outcome, value}
use Rattle.tables.specs.declared.DeviceFacts.{DeviceFacts}
use Rattle.tables.specs.Packed.{device_row}
use Rattle.devices.specs.Calls.{device_answer, info_of}
use Rattle.devices.specs.declared.DeviceInfo.{DeviceInfo}
use Rattle.devices.proofs.Laws.{read_refused, read_device_lem}
use Rattle.devices.proofs.device.Goals as goal

-- what is said of a device, but for its depth
abbrev info : DeviceFacts → ℕ → Outcome DeviceInfo
info d n = value (record { kind = d.kind; usb4 = d.usb4; domain = d.domain; route = d.route; depth = n })

pub returns-in_err-d : goal.returns-in_err-d
unfolding device_answer
returns-in_err-d c = let p = err_from_is_err_and c.from_residual.result c.from_residual.ensures.1 in
    rw (p.1, p.2) (read_refused _ _ _ _ _ c.read_device.ensures _ c.in_err-d.was)

pub returns : goal.returns
unfolding device_answer info_of device_row
returns c = ap (info c.in_ok-d.d) c.depth.ensures ∙ read_device_lem _ _ _ (λ x. value (info_of x)) _ c.read_device.ensures _ c.in_ok-d.was
