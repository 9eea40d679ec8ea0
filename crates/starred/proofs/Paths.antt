-- Document 01's worked input: both paths of its tunnel, by the definitions. Assumes nothing.
use Prim.Native.Nat.{ℕ}
use mathlib.Core.Path.{◌≡◌, refl}
use mathlib.Core.List.{[], ◌∷◌}
use Rattle.std.specs.Prelude.{Some}
use Rattle.refusal.specs.Outcome.{value, bind}
use Rattle.route.specs.Route.{used_bytes, depth_of, upstream_route, downstream_route, adapter_beneath, downstream_adapter}
use Rattle.adapter.specs.Adapter.{is_lane, adapter_site}
use Rattle.tables.specs.Rows.{entry_in, adapter_in, device_in, is_router, router_from}
use Rattle.load.specs.Answers.{present, asked_device}
use Rattle.load.proofs.Example.{entry, plain_row, router_row, example_rows}
use Rattle.fabric.specs.Links.{is_upstream, route_or, upstream_route_of, downstream_route_of}
use Rattle.orbit.specs.Walk.{walk_n, hops_n, hop_at, onward, made, turned, arrive, found}
use Rattle.fabric.specs.Fabric.{stand_by, stand_at, up_by, arrive_up, down_by, arrive_down, to_device, to_router, to_route, leads_from, leads_by, leads}
use Rattle.walk.specs.Walking.{turn_by, walk_on, path_of}
use Rattle.walk.specs.Rule.{settled, walk_from}
use Rattle.tables.specs.declared.Stand.{Stand}

unfoldable pub stand : ℕ → ℕ → ℕ → Stand
stand p a h = record { place = p; adapter = a; hop_id = h }

-- PCIe Down, from 0:2
pub down : walk_from example_rows (stand 0 2 8) ≡ value (Some (entry 0 2 8 1 8 ∷ entry 1 1 8 2 8 ∷ []))
unfolding stand entry plain_row router_row example_rows bind present asked_device entry_in adapter_in device_in is_router router_from used_bytes depth_of upstream_route downstream_route adapter_beneath downstream_adapter is_upstream route_or upstream_route_of downstream_route_of is_lane adapter_site stand_by stand_at up_by arrive_up down_by arrive_down to_device to_router to_route leads_from leads_by leads turn_by walk_on walk_n hops_n hop_at onward made turned arrive found settled walk_from path_of
down = refl

-- PCIe Up, from 1:2
pub up : walk_from example_rows (stand 1 2 8) ≡ value (Some (entry 1 2 8 1 8 ∷ entry 0 1 8 2 8 ∷ []))
unfolding stand entry plain_row router_row example_rows bind present asked_device entry_in adapter_in device_in is_router router_from used_bytes depth_of upstream_route downstream_route adapter_beneath downstream_adapter is_upstream route_or upstream_route_of downstream_route_of is_lane adapter_site stand_by stand_at up_by arrive_up down_by arrive_down to_device to_router to_route leads_from leads_by leads turn_by walk_on walk_n hops_n hop_at onward made turned arrive found settled walk_from path_of
up = refl
