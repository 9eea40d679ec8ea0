-- What the searches in tables answer. Assumes nothing.
use Rattle.std.specs.Prelude.{ℕ, ◌-◌, ◌≤◌, ◌<◌, ◌≡◌, List, length, get_or, Option, None, Some}
use Rattle.adapter.specs.Adapter.{AdapterRow, facts_row}
use Rattle.tables.specs.Rows.{EntryRow, DeviceRow, entry_in, adapter_in}
use Rattle.tables.specs.Packed.{entry_word, adapter_word, device_row, entries_in, adapters_in, entry_unit, adapter_unit, Sorted}
use Rattle.tables.specs.declared.DeviceFacts.{DeviceFacts}
use Rattle.adapter.specs.declared.Facts.{Facts}
use Rattle.adapter.specs.declared.EntryOut.{EntryOut}

-- r is where words that are not below a bound begin, as far as the words beside it tell
pub record Boundary (t : List ℕ) (bound r : ℕ) : Type 0 where
  pub within : r ≤ length t
  pub below : 0 < r → get_or t (r - 1) 0 < bound
  pub above : r < length t → bound ≤ get_or t r 0

-- the entry for a HopID that was found
unfoldable pub entry_found : ℕ → ℕ → ℕ → Option EntryOut → Option EntryRow
entry_found p a h (Some e) = Some (record { device = p; adapter = a; in_hop = h; out_adapter = e.out_adapter; out_hop = e.out_hop })
entry_found p a h None = None

-- In a table whose keys don't fall it is the first entry. In any other it is free whether an entry is found; one that is found stands in the table.
pub record EntrySought (t : List ℕ) (p a h : ℕ) (r : Option EntryOut) : Type 0 where
  pub first : p < 65536 → Sorted entry_unit t → entry_found p a h r ≡ entry_in (entries_in t) p a h
  pub past : 65535 < p → r ≡ None
  pub held : (e : EntryRow) → entry_found p a h r ≡ Some e → (k : ℕ) × (k < length t) × (entry_word (get_or t k 0) ≡ e)

unfoldable pub adapter_found : ℕ → Option Facts → Option AdapterRow
adapter_found p (Some f) = Some (facts_row p f)
adapter_found p None = None

-- the same for adapters
pub record AdapterSought (t : List ℕ) (p a : ℕ) (r : Option Facts) : Type 0 where
  pub first : p < 65536 → Sorted adapter_unit t → adapter_found p r ≡ adapter_in (adapters_in t) p a
  pub past : 65535 < p → r ≡ None
  pub held : (x : AdapterRow) → adapter_found p r ≡ Some x → (k : ℕ) × (k < length t) × (adapter_word (get_or t k 0) ≡ x) × (x.number ≡ a)

unfoldable pub device_found : ℕ → Option DeviceFacts → Option DeviceRow
device_found p (Some d) = Some (device_row p d)
device_found p None = None
