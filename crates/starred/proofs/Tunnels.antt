-- The starred rows of discovery: what their surveys load to, by computing, and what is discovered. Assumes nothing.
use Prim.Native.Nat.{ℕ}
use mathlib.Core.Path.{◌≡◌, refl, ap, ◌∙◌}
use mathlib.Core.List.{List, [], ◌∷◌}
use Rattle.std.specs.Prelude.{Option, Some}
use Rattle.refusal.specs.Outcome.{Outcome, refused, value, bind}
use Rattle.refusal.specs.Refusal.{refusal_of, at}
use Rattle.util.specs.Bits.{bits_of}
use Rattle.util.specs.Text.{bytes_of}
use Rattle.usb4.specs.Codes.{type_of, lane_state_of, device_kind_of}
use Rattle.register.specs.Line.{register_of}
use Rattle.layout.specs.Layout.{keep}
use Rattle.naming.specs.Naming.{is, is_none, kind_fits, cap_fits, vs_fits, fits as fits_naming, only, naming}
use Rattle.fields.specs.Names.{lower, alike, field_is, find_field, one_bit, find_flag}
use Rattle.metadata.specs.Calls.{value_in, is_set, flag_in}
use Rattle.metadata.specs.Ours.{bits_named, plain, capped, ours}
use Rattle.survey.specs.Words.{is_long, size_of, groups_of}
use Rattle.survey.specs.Rules.{good_device, good_adapter, good_register, after_device, after_adapter, may_stand, after_register, step_of, step_by, size_by, on_step, first_bad, check_of}
use Rattle.survey.specs.Devices.{register_in, with_register, with_adapter, with_device, with_group, gather, devices_of, read_survey}
use Rattle.named.specs.Named.{named, or_else, having_name, with_register as having_register, by_name, sited, wanted_field, wanted_flag}
use Rattle.state.specs.State.{by_offset, both_set, enabled_if, by_flag, by_flags, lane_state, of_kind, state_of, has_speed, speed_in, link_speed}
use Rattle.adapter.specs.Adapter.{third_value, kind_of, registers_of, indices_from, last_of, between, find_cap, is_lane, is_lane0, lane0_of, lane1_of, min_hop, narrow, max_hop_in, max_hop, parse_state, adapter_site, few_registers, row_of, decode_of}
use Rattle.adapter.specs.Paths.{entry_in, entry_of, with_entry, entries_from, entries_by, entries_of}
use Rattle.numbering.specs.Numbered.{numbered}
use Rattle.load.specs.Loading.{itself, and_then, owned, own_rows, load_adapter, load_adapters, router_cs1, upstream_in, device_row, device_rows, fitting, fits, no_registers, load_device, load_from, loaded}
use Rattle.route.specs.Route.{used_bytes, depth_of, upstream_route, downstream_route, adapter_beneath, downstream_adapter}
use Rattle.tables.specs.Rows.{Rows, joined, entry_in as entry_at, adapter_in, device_in, is_router, router_from}
use Rattle.load.specs.Answers.{present, asked_device, asked_adapter}
use Rattle.load.proofs.Example.{entry, plain_row, router_row, example_rows}
use Rattle.fabric.specs.Links.{is_upstream, route_or, upstream_route_of, downstream_route_of}
use Rattle.orbit.specs.Walk.{walk_n, hops_n, hop_at, onward, made, turned, arrive, found as found_at}
use Rattle.fabric.specs.Fabric.{stand_by, stand_at, up_by, arrive_up, down_by, arrive_down, to_device, to_router, to_route, leads_from, leads_by, leads}
use Rattle.walk.specs.Walking.{turn_by, walk_on}
use Rattle.walk.specs.Rule.{settled, walk_from}
use Rattle.usb4.specs.declared.AdapterType.TheVariants as type
use Rattle.usb4.specs.declared.State.TheVariants as state
use Rattle.usb4.specs.declared.Speed.TheVariants as speed
use mathlib.Core.Bool.{false}
use Rattle.state.specs.State.{is_enabled, is_protocol}
use Rattle.receive.specs.Receive.{at as stand_at_hop}
use Rattle.tunnel.specs.Tunnels.{Tunnel, leaving, or_absent, needed, tunnel_of, down_and_up, alone, rings, or_none, dma, of_kind as tunnels_of, discover}
use Rattle.discovery.specs.Answers.{discover_at}
use Rattle.discoveries.specs.Calls.{discover_answer}
use Rattle.starred.specs.Table.{Holds, tunnels, ring, host}
use Rattle.starred.proofs.Walks.{ring_rows, ring_loads}

unfoldable host_rows : Rows
host_rows = record {
  entries = [];
  adapters = record { device = 0; number = 1; kind = type.HostInterface; state = state.Enabled; lane0 = false; lane1 = false; speed = value speed.Unknown; max_hop = value (Some 0) } ∷ [];
  devices = router_row 0 1 ∷ [];
}

host_loads : bind (read_survey host) (λ devices. load_from ours 0 devices) ≡ value host_rows
unfolding host host_rows entry plain_row router_row example_rows bind refusal_of at bits_of bytes_of type_of lane_state_of device_kind_of register_of keep is is_none kind_fits cap_fits vs_fits fits_naming only naming lower alike field_is find_field one_bit find_flag value_in is_set flag_in bits_named plain capped ours is_long size_of groups_of good_device good_adapter good_register after_device after_adapter may_stand after_register step_of step_by size_by on_step first_bad check_of register_in with_register with_adapter with_device with_group gather devices_of read_survey named or_else having_name having_register by_name sited wanted_field wanted_flag by_offset both_set enabled_if by_flag by_flags lane_state of_kind state_of has_speed speed_in link_speed third_value kind_of registers_of indices_from last_of between find_cap is_lane is_lane0 lane0_of lane1_of min_hop narrow max_hop_in max_hop parse_state adapter_site few_registers row_of decode_of entry_in entry_of with_entry entries_from entries_by entries_of joined itself and_then owned own_rows load_adapter load_adapters router_cs1 upstream_in device_row device_rows numbered fitting fits no_registers load_device load_from
host_loads = refl

ring_tunnels : discover_at ring_rows 0 2 ≡ refused 13 []
unfolding discover_at is_enabled is_protocol stand_at_hop leaving or_absent needed tunnel_of down_and_up alone tunnels_of discover ring_rows entry plain_row router_row example_rows bind present asked_device asked_adapter entry_at adapter_in device_in is_router router_from used_bytes depth_of upstream_route downstream_route adapter_beneath downstream_adapter is_upstream route_or upstream_route_of downstream_route_of is_lane adapter_site stand_by stand_at up_by arrive_up down_by arrive_down to_device to_router to_route leads_from leads_by leads turn_by walk_on walk_n hops_n hop_at onward made turned arrive found_at settled walk_from
ring_tunnels = refl

-- HopIDs 1 to 0: no ring
host_tunnels : discover_at host_rows 0 1 ≡ value (Some [])
unfolding discover_at is_enabled is_protocol host_rows router_row bind present asked_device asked_adapter adapter_in device_in min_hop rings or_none dma tunnels_of discover
host_tunnels = refl

module _ (words : List ℕ) (x : Rows) (p a : ℕ) (loads : bind (read_survey words) (λ devices. load_from ours 0 devices) ≡ value x) where
  answered : (end : Outcome (Option (List Tunnel))) → discover_at x p a ≡ end → Holds (tunnels words p a end)
  unfolding Holds discover_answer loaded bind
  answered end e t d = ap (λ o. bind (bind o (λ ds. bind (read_survey words) (λ devices. load_from ds 0 devices))) (λ y. discover_at y p a)) d ∙ ap (λ o. bind o (λ y. discover_at y p a)) loads ∙ e

pub ring_discovered : Holds (tunnels ring 0 2 (refused 13 []))
ring_discovered = answered ring ring_rows 0 2 ring_loads (refused 13 []) ring_tunnels

pub host_discovered : Holds (tunnels host 0 1 (value (Some [])))
host_discovered = answered host host_rows 0 1 host_loads (value (Some [])) host_tunnels
