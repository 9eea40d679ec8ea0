-- Document 01's worked input: both paths of its tunnel, and its words, by the definitions. Assumes nothing.
use mathlib.Core.Path.{◌≡◌, refl}
use mathlib.Core.List.{[], ◌∷◌}
use Rattle.std.specs.Prelude.{Some}
use Rattle.refusal.specs.Outcome.{value, bind}
use Rattle.usb4.specs.declared.TunnelType.TheVariants as tunnel_type
use Rattle.route.specs.Route.{used_bytes, depth_of, upstream_route, downstream_route, adapter_beneath, downstream_adapter}
use Rattle.state.specs.State.{is_enabled, is_protocol}
use Rattle.adapter.specs.Adapter.{is_lane, adapter_site}
use Rattle.tables.specs.Rows.{entry_in, adapter_in, device_in, is_router, router_from}
use Rattle.load.specs.Answers.{present, asked_device, asked_adapter}
use Rattle.load.proofs.Example.{entry, plain_row, router_row, example_rows}
use Rattle.fabric.specs.Links.{is_upstream, route_or, upstream_route_of, downstream_route_of}
use Rattle.fabric.specs.Fabric.{stand_by, stand_at, up_by, arrive_up, down_by, arrive_down, to_device, to_router, to_route, leads_from, leads_by, leads}
use Rattle.orbit.specs.Walk.{walk_n, hops_n, hop_at, onward, made, turned, arrive, found}
use Rattle.walk.specs.Walking.{turn_by, walk_on, path_of}
use Rattle.walk.specs.Rule.{settled, walk_from}
use Rattle.walk.specs.Tables.{last_of}
use Rattle.path.specs.Words.{hop_words, hops_words, path_words}
use Rattle.receive.specs.Receive.{at}
use Rattle.tunnel.specs.Tunnels.{Tunnel, path, leaving, or_absent, needed, tunnel_of, down_and_up, alone, of_kind, discover}
use Rattle.tunnel.specs.Words.{back_to, last_path, closed_by, closed, paths_words, tunnel_word, tunnel_words, tunnels_words}

abbrev pub example_tunnel : Tunnel
example_tunnel = record { type = tunnel_type.Pcie; paths = path 5 (entry 0 2 8 1 8 ∷ entry 1 1 8 2 8 ∷ []) ∷ path 6 (entry 1 2 8 1 8 ∷ entry 0 1 8 2 8 ∷ []) ∷ [] }

pub asked : bind (asked_adapter example_rows 0 2) (discover example_rows 0) ≡ value (Some (example_tunnel ∷ []))
unfolding asked_adapter is_enabled is_protocol at path leaving or_absent needed tunnel_of alone down_and_up of_kind discover last_of entry plain_row router_row example_rows bind present asked_device entry_in adapter_in device_in is_router router_from used_bytes depth_of upstream_route downstream_route adapter_beneath downstream_adapter is_upstream route_or upstream_route_of downstream_route_of is_lane adapter_site stand_by stand_at up_by arrive_up down_by arrive_down to_device to_router to_route leads_from leads_by leads turn_by walk_on walk_n hops_n hop_at onward made turned arrive found settled walk_from path_of
asked = refl

-- closed, two paths, PCIe
pub words : tunnels_words (example_tunnel ∷ []) ≡ 0x80010202 ∷ 0x90050002 ∷ 0xa0000201 ∷ 0x80008 ∷ 0xa0010102 ∷ 0x80008 ∷ 0x90060002 ∷ 0xa0010201 ∷ 0x80008 ∷ 0xa0000102 ∷ 0x80008 ∷ []
unfolding tunnels_words tunnel_words tunnel_word closed closed_by last_path back_to paths_words path_words hops_words hop_words path entry last_of
words = refl
