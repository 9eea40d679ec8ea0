-- For the contracts of private functions only. No promise to a caller rests on these. Assumes nothing.
use Rattle.std.specs.Prelude.{ℕ, Option, Result, ◌≡◌}
use Rattle.refusal.specs.Outcome.{Outcome}
use Rattle.refusal.specs.Refusal.{fault_outcome}
use Rattle.refusal.specs.declared.Fault.{Fault}
use Rattle.adapter.specs.Adapter.{AdapterRow, facts_row}
use Rattle.adapter.specs.declared.Facts.{Facts}
use Rattle.tables.specs.Rows.{DeviceRow}
use Rattle.tables.specs.Packed.{device_row}
use Rattle.tables.specs.declared.DeviceFacts.{DeviceFacts}

-- what is answered of a device at place p and an adapter of it is what f says
abbrev pub Answers : ℕ → (DeviceFacts → Facts → Result (Option ℕ) Fault → Type 0) → (DeviceRow → AdapterRow → Outcome (Option ℕ)) → Type 0
Answers p post f = (d : DeviceFacts) (a : Facts) (r : Result (Option ℕ) Fault) → post d a r → fault_outcome r ≡ f (device_row p d) (facts_row p a)
