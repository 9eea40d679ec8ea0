-- Document 01's worked input under its descriptions: what it loads to, by the definitions. Assumes nothing.
use Prim.Native.Nat.{ℕ}
use mathlib.Core.Path.{◌≡◌, refl, ◌∙◌, ap}
use mathlib.Core.Bool.{Bool, true, false}
use mathlib.Core.List.{List, [], ◌∷◌}
use Rattle.std.specs.Prelude.{None, Some}
use Rattle.refusal.specs.Outcome.{value, bind}
use Rattle.refusal.specs.Refusal.{refusal_of, at}
use Rattle.util.specs.Bits.{bits_of}
use Rattle.util.specs.Text.{bytes_of}
use Rattle.usb4.specs.Codes.{type_of, lane_state_of, device_kind_of}
use Rattle.usb4.specs.declared.Kind.TheVariants as kind
use Rattle.usb4.specs.declared.AdapterType.{AdapterType}
use Rattle.usb4.specs.declared.AdapterType.TheVariants as type
use Rattle.usb4.specs.declared.State.{State}
use Rattle.usb4.specs.declared.State.TheVariants as state
use Rattle.usb4.specs.declared.Speed.TheVariants as speed
use Rattle.register.specs.Line.{register_of}
use Rattle.layout.specs.Layout.{keep}
use Rattle.description.specs.Rules.{read_descriptions}
use Rattle.naming.specs.Naming.{is, is_none, kind_fits, cap_fits, vs_fits, fits as fits_naming, only, naming}
use Rattle.fields.specs.Names.{lower, alike, field_is, find_field, one_bit, find_flag}
use Rattle.metadata.specs.Calls.{value_in, is_set, flag_in}
use Rattle.metadata.specs.Ours.{bits_named, plain, capped, ours}
use Rattle.survey.specs.Words.{is_long, size_of, groups_of}
use Rattle.survey.specs.Rules.{good_device, good_adapter, good_register, after_device, after_adapter, may_stand, after_register, step_of, step_by, size_by, on_step, first_bad, check_of}
use Rattle.survey.specs.Devices.{register_in, with_register, with_adapter, with_device, with_group, gather, devices_of, read_survey}
use Rattle.named.specs.Named.{named, or_else, having_name, with_register as having_register, by_name, sited, wanted_field, wanted_flag}
use Rattle.state.specs.State.{by_offset, both_set, enabled_if, by_flag, by_flags, lane_state, of_kind, state_of, has_speed, speed_in, link_speed}
use Rattle.adapter.specs.Adapter.{AdapterRow, third_value, kind_of, registers_of, indices_from, last_of, between, find_cap, is_lane, is_lane0, lane0_of, lane1_of, min_hop, narrow, max_hop_in, max_hop, parse_state, adapter_site, few_registers, row_of, decode_of}
use Rattle.adapter.specs.Paths.{entry_in, entry_of, with_entry, entries_from, entries_by, entries_of}
use Rattle.tables.specs.Rows.{EntryRow, DeviceRow, Rows, joined}
use Rattle.numbering.specs.Numbered.{numbered}
use Rattle.load.specs.Loading.{itself, and_then, owned, own_rows, load_adapter, load_adapters, router_cs1, upstream_in, device_row, device_rows, fitting, fits, no_registers, load_device, load_from, loaded}

-- the worked input as words
unfoldable pub example : List ℕ
example =
    822083586 ∷ 0 ∷ 0 ∷ 0 ∷ 1342177281 ∷ 65536 ∷ 0 ∷ 49920
    ∷ 1073742593 ∷ 1342177280 ∷ 0 ∷ 0 ∷ 0 ∷ 1342177281 ∷ 65536 ∷ 0
    ∷ 0 ∷ 1342177282 ∷ 131072 ∷ 0 ∷ 1 ∷ 1342242832 ∷ 0 ∷ 0
    ∷ 2147487752 ∷ 1073742594 ∷ 1342177280 ∷ 0 ∷ 0 ∷ 0 ∷ 1342177281 ∷ 65536
    ∷ 0 ∷ 0 ∷ 1342177282 ∷ 131072 ∷ 0 ∷ 1048833 ∷ 1342177337 ∷ 4
    ∷ 0 ∷ 2147483648 ∷ 1342242832 ∷ 0 ∷ 0 ∷ 2147485704 ∷ 1073742083 ∷ 1342177280
    ∷ 0 ∷ 0 ∷ 0 ∷ 1342177281 ∷ 65536 ∷ 0 ∷ 0 ∷ 1342177282
    ∷ 131072 ∷ 0 ∷ 2 ∷ 822083586 ∷ 0 ∷ 1 ∷ 0 ∷ 1342177281
    ∷ 65536 ∷ 0 ∷ 33024 ∷ 1073742593 ∷ 1342177280 ∷ 0 ∷ 0 ∷ 0
    ∷ 1342177281 ∷ 65536 ∷ 0 ∷ 0 ∷ 1342177282 ∷ 131072 ∷ 0 ∷ 1
    ∷ 1342242832 ∷ 0 ∷ 0 ∷ 2147487752 ∷ 1073742594 ∷ 1342177280 ∷ 0 ∷ 0
    ∷ 0 ∷ 1342177281 ∷ 65536 ∷ 0 ∷ 0 ∷ 1342177282 ∷ 131072 ∷ 0
    ∷ 1048834 ∷ 1342242832 ∷ 0 ∷ 0 ∷ 2147485704
    ∷ []

-- device, adapter, HopID, then where it leads
unfoldable pub entry : ℕ → ℕ → ℕ → ℕ → ℕ → EntryRow
entry p a h out o = record { device = p; adapter = a; in_hop = h; out_adapter = out; out_hop = o }

-- the adapters here have no ADP_CS_5 and no lane in a state that has a speed
unfoldable pub plain_row : ℕ → ℕ → AdapterType → State → Bool → AdapterRow
plain_row p n k s lane0 = record { device = p; number = n; kind = k; state = s; lane0 = lane0; lane1 = false; speed = value speed.Unknown; max_hop = value None }

-- a router of domain 0 that is not USB4
unfoldable pub router_row : ℕ → ℕ → DeviceRow
router_row route up = record { kind = kind.Router; usb4 = false; domain = 0; route = route; upstream = value (Some up) }

unfoldable pub example_rows : Rows
example_rows = record {
  entries = entry 0 1 8 2 8 ∷ entry 0 2 8 1 8 ∷ entry 1 1 8 2 8 ∷ entry 1 2 8 1 8 ∷ [];
  adapters = plain_row 0 1 type.Lane state.Unknown true
      ∷ plain_row 0 2 type.PcieDown state.Enabled false
      ∷ plain_row 0 3 type.HostInterface state.Enabled false
      ∷ plain_row 1 1 type.Lane state.Unknown true
      ∷ plain_row 1 2 type.PcieUp state.Unknown false
      ∷ [];
  devices = router_row 0 3 ∷ router_row 1 1 ∷ [];
}

pub read_and_load : bind (read_survey example) (λ devices. load_from ours 0 devices) ≡ value example_rows
unfolding example entry plain_row router_row example_rows bind refusal_of at bits_of bytes_of type_of lane_state_of device_kind_of register_of keep is is_none kind_fits cap_fits vs_fits fits_naming only naming lower alike field_is find_field one_bit find_flag value_in is_set flag_in bits_named plain capped ours is_long size_of groups_of good_device good_adapter good_register after_device after_adapter may_stand after_register step_of step_by size_by on_step first_bad check_of register_in with_register with_adapter with_device with_group gather devices_of read_survey named or_else having_name having_register by_name sited wanted_field wanted_flag by_offset both_set enabled_if by_flag by_flags lane_state of_kind state_of has_speed speed_in link_speed third_value kind_of registers_of indices_from last_of between find_cap is_lane is_lane0 lane0_of lane1_of min_hop narrow max_hop_in max_hop parse_state adapter_site few_registers row_of decode_of entry_in entry_of with_entry entries_from entries_by entries_of joined itself and_then owned own_rows load_adapter load_adapters router_cs1 upstream_in device_row device_rows numbered fitting fits no_registers load_device load_from
read_and_load = refl

-- under words that are our descriptions
pub loads : (t : List ℕ) → read_descriptions t ≡ value ours → loaded t example ≡ value example_rows
unfolding loaded bind
loads t e = ap (λ o. bind o (λ ds. bind (read_survey example) (λ devices. load_from ds 0 devices))) e ∙ read_and_load
