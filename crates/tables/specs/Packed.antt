-- Rows as tables hold them: an entry and an adapter one word, its key in the upper bits; a device as it is known. Assumes nothing.
use Rattle.std.specs.Prelude.{ℕ, zero, suc, ◌/◌, ◌%◌, ◌^◌, ◌≤◌, ◌<◌, cond, List, [], ◌∷◌, map, eqb, length, get_or, Option, None, Some}
use Rattle.refusal.specs.Outcome.{Outcome, value}
use Rattle.refusal.specs.Refusal.{refusal_of, field_at}
use Rattle.refusal.specs.declared.Site.{Site}
use Rattle.refusal.specs.declared.Fault.TheVariants.{NoField}
use Rattle.usb4.specs.declared.AdapterType.{AdapterType}
use Rattle.usb4.specs.declared.AdapterType.TheVariants as type
use Rattle.usb4.specs.declared.State.{State}
use Rattle.usb4.specs.declared.State.TheVariants as state
use Rattle.usb4.specs.declared.Speed.{Speed}
use Rattle.usb4.specs.declared.Speed.TheVariants as speed
use Rattle.adapter.specs.Adapter.{AdapterRow, adapter_site}
use Rattle.tables.specs.Rows.{EntryRow, DeviceRow}
use Rattle.tables.specs.declared.DeviceFacts.{DeviceFacts}

-- device 16 bits, adapter 8, in HopID 16, out adapter 8, out HopID 16
unfoldable pub entry_word : ℕ → EntryRow
entry_word w = record { device = w / 2 ^ 48; adapter = w / 2 ^ 40 % 256; in_hop = w / 2 ^ 24 % 65536; out_adapter = w / 2 ^ 16 % 256; out_hop = w % 65536 }

-- a kind, a state and a speed by their numbers
unfoldable pub type_by : ℕ → AdapterType
type_by n =
    cond (eqb n 1) type.Inactive
    (cond (eqb n 2) type.Lane
    (cond (eqb n 3) type.HostInterface
    (cond (eqb n 4) type.DisplayPortIn
    (cond (eqb n 5) type.DisplayPortOut
    (cond (eqb n 6) type.PcieDown
    (cond (eqb n 7) type.PcieUp
    (cond (eqb n 8) type.Usb3Down
    (cond (eqb n 9) type.Usb3Up
    (cond (eqb n 10) type.Usb3GenTDown
    (cond (eqb n 11) type.Usb3GenTUp type.Unknown))))))))))

unfoldable pub state_by : ℕ → State
state_by n =
    cond (eqb n 1) state.Disabled
    (cond (eqb n 2) state.Enabled
    (cond (eqb n 3) state.Training
    (cond (eqb n 4) state.Cl0
    (cond (eqb n 5) state.Cl0sTx
    (cond (eqb n 6) state.Cl0sRx
    (cond (eqb n 7) state.Cl1
    (cond (eqb n 8) state.Cl2
    (cond (eqb n 9) state.Cld state.Unknown))))))))

-- 4 is the speed that is refused
unfoldable pub speed_by : Site → ℕ → Outcome Speed
speed_by s n =
    cond (eqb n 1) (value speed.Gen2)
    (cond (eqb n 2) (value speed.Gen3)
    (cond (eqb n 3) (value speed.Gen4)
    (cond (eqb n 4) (refusal_of (NoField s)) (value speed.Unknown))))

-- 0 is none, 1 is refused, any other is a number and 2
unfoldable pub number_by : Site → ℕ → Outcome (Option ℕ)
number_by s zero = value None
number_by s (suc zero) = refusal_of (NoField s)
number_by s (suc (suc n)) = value (Some n)

-- device 16 bits, number 8, largest HopID 20, kind 4, state 4, speed 4, lane 0 4, lane 1 4
unfoldable pub adapter_word : ℕ → AdapterRow
adapter_word w = record {
  device = w / 2 ^ 48;
  number = w / 2 ^ 40 % 256;
  kind = type_by (w / 2 ^ 16 % 16);
  state = state_by (w / 2 ^ 12 % 16);
  lane0 = eqb (w / 2 ^ 4 % 16) 1;
  lane1 = eqb (w % 16) 1;
  speed = speed_by (adapter_site (w / 2 ^ 48) (w / 2 ^ 40 % 256)) (w / 2 ^ 8 % 16);
  max_hop = number_by (adapter_site (w / 2 ^ 48) (w / 2 ^ 40 % 256)) (w / 2 ^ 20 % 2 ^ 20);
}

-- the device at place p
unfoldable pub device_row : ℕ → DeviceFacts → DeviceRow
device_row p d = record { kind = d.kind; usb4 = d.usb4; domain = d.domain; route = d.route; upstream = field_at (adapter_site p 0) d.upstream }

abbrev pub entries_in : List ℕ → List EntryRow
entries_in = map entry_word

abbrev pub adapters_in : List ℕ → List AdapterRow
adapters_in = map adapter_word

-- the devices of a table, where the first has place p
unfoldable pub devices_from : ℕ → List DeviceFacts → List DeviceRow
devices_from p [] = []
devices_from p (d ∷ ds) = device_row p d ∷ devices_from (suc p) ds

abbrev pub devices_in : List DeviceFacts → List DeviceRow
devices_in ds = devices_from 0 ds

-- keys are the multiples of a unit; an entry's bits from 24 up, an adapter's from 40 up
abbrev pub entry_unit : ℕ
entry_unit = 2 ^ 24

abbrev pub adapter_unit : ℕ
adapter_unit = 2 ^ 40

-- keys don't fall
unfoldable pub Sorted : ℕ → List ℕ → Type 0
Sorted unit t = (i j : ℕ) → i < j → j < length t → get_or t i 0 / unit ≤ get_or t j 0 / unit
