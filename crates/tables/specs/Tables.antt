-- What tables hold, and the tables that a survey loads to: those in order, and no larger than a survey's. Assumes nothing.
use Rattle.std.specs.Prelude.{◌≤◌, length}
use Rattle.tables.specs.Rows.{Rows}
use Rattle.tables.specs.Packed.{entries_in, adapters_in, devices_in, entry_unit, adapter_unit, Sorted}
use Rattle.tables.specs.declared.Tables.{Tables}

-- the rows that tables hold
unfoldable pub rows_of : Tables → Rows
rows_of t = record { entries = entries_in t.entries.now; adapters = adapters_in t.adapters.now; devices = devices_in t.devices.now }

-- adapters in order, and no more devices than a key has room for
pub record InOrder (t : Tables) : Type 0 where
  pub adapters : Sorted adapter_unit t.adapters.now
  pub devices : length t.devices.now ≤ 65536

-- entries in order too
pub record Tabled (t : Tables) : Type 0 where
  pub entries : Sorted entry_unit t.entries.now
  pub others : InOrder t

-- entries and devices of no more than 4,096 each
pub record Sized (t : Tables) : Type 0 where
  pub entries : length t.entries.now ≤ 4096
  pub devices : length t.devices.now ≤ 4096

-- no survey loads to larger tables
pub record Fits (t : Tables) : Type 0 where
  pub sized : Sized t
  pub adapters : length t.adapters.now ≤ 16384
