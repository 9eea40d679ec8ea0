-- What loading answers, in document 01's numbers and values. Assumes nothing.
use Rattle.std.specs.Prelude.{ℕ, ◌≤◌, ◌≡◌, List, [], length, take, Option, None, Some, Err, Result, Ok}
use Rattle.refusal.specs.Outcome.{Outcome, refused, value, bind}
use Rattle.refusal.specs.Refusal.{refused_by}
use Rattle.adapter.specs.Adapter.{AdapterRow}
use Rattle.tables.specs.Rows.{Rows, DeviceRow, adapter_in, device_in}
use Rattle.tables.specs.Packed.{entries_in, adapters_in, devices_in}
use Rattle.tables.specs.Tables.{rows_of}
use Rattle.tables.specs.declared.DeviceFacts.{DeviceFacts}
use Rattle.tables.specs.declared.Tables.{Tables}
use Rattle.load.specs.Loading.{loaded}
use Rattle.load.specs.declared.Counts.{Counts}
use Rattle.load.specs.declared.Used.{Used}
use Rattle.refusal.specs.declared.Refusal.{Refusal}

-- The rows that are held, as far as they are counted. Free is what stands past those, and which of several codes for one meaning stands in a word.
unfoldable pub held : List ℕ → List ℕ → List DeviceFacts → Counts → Rows
held en ad de c = record { entries = entries_in (take c.entries en); adapters = adapters_in (take c.adapters ad); devices = devices_in (take c.devices de) }

abbrev pub counts_used : Used → Counts
counts_used u = record { entries = u.entries; adapters = u.adapters; devices = u.devices }

-- as many as there is room for, and how long the table of devices is
pub record Counted (de : List DeviceFacts) (c : Counts) : Type 0 where
  pub entries : c.entries ≤ 4096
  pub adapters : c.adapters ≤ 16384
  pub devices : c.devices ≤ 4096
  pub long : length de ≡ 4096

-- the rows x where o is a value, else its refusal
abbrev pub answered : {A : Type 0} → Outcome A → Rows → Outcome Rows
answered o x = bind o (λ a. value x)

-- rows that are answered are what a survey loads to under descriptions, so their keys don't fall
unfoldable pub LoadedBy : Result Unit Refusal → Rows → Type 0
LoadedBy (Ok u) x = (t : List ℕ) × (s : List ℕ) × (loaded t s ≡ value x)
LoadedBy (Err r) x = 0 ≤ 0

-- what tables that are answered hold, or the refusal
unfoldable pub tables_rows : Result Tables Refusal → Outcome Rows
tables_rows (Ok t) = value (rows_of t)
tables_rows (Err r) = refused_by r

unfoldable pub counts_of : Rows → Counts
counts_of x = record { entries = length x.entries; adapters = length x.adapters; devices = length x.devices }

-- 14: the device or adapter asked for isn't there
unfoldable pub present : {A : Type 0} → Option A → Outcome A
present None = refused 14 []
present (Some a) = value a

unfoldable pub asked_device : Rows → ℕ → Outcome DeviceRow
asked_device x p = present (device_in x.devices p)

unfoldable pub asked_adapter : Rows → ℕ → ℕ → Outcome AdapterRow
asked_adapter x p a = bind (asked_device x p) (λ d. present (adapter_in x.adapters p a))
