-- For the contracts of private functions only. No promise to a caller rests on these. Assumes nothing.
use Rattle.std.specs.Prelude.{Err, Ok, Result, ℕ, List}
use Rattle.refusal.specs.Outcome.{Outcome, value, bind}
use Rattle.tables.specs.Rows.{DeviceRow}
use Rattle.tables.specs.Packed.{device_row}
use Rattle.load.specs.Loading.{loaded}
use Rattle.load.specs.Answers.{asked_device}
use Rattle.refusal.specs.Refusal.{refused_by}
use Rattle.refusal.specs.declared.Refusal.{Refusal}
use Rattle.tables.specs.declared.DeviceFacts.{DeviceFacts}

-- a device that is asked for
unfoldable pub read_device : List ℕ → List ℕ → ℕ → Outcome DeviceRow
read_device t s p = bind (loaded t s) (λ x. asked_device x p)

unfoldable pub read_outcome : ℕ → Result DeviceFacts Refusal → Outcome DeviceRow
read_outcome p (Ok d) = value (device_row p d)
read_outcome p (Err r) = refused_by r
