-- Document 01, module 6: the routes of a router's adapters, on rows. Assumes nothing.
use Rattle.std.specs.Prelude.{ℕ, Bool, false, cond, ◌&&◌, eqb, Option, None, Some}
use Rattle.refusal.specs.Outcome.{Outcome, refused, value}
use Rattle.refusal.specs.Refusal.{refusal_of}
use Rattle.refusal.specs.declared.Fault.{Fault}
use Rattle.refusal.specs.declared.Fault.TheVariants.{NoParentRoute, NoDownstreamRoute}
use Rattle.route.specs.Route.{upstream_route, downstream_route}
use Rattle.adapter.specs.Adapter.{AdapterRow, adapter_site, is_lane}
use Rattle.tables.specs.Rows.{DeviceRow}

-- whether an adapter is the upstream adapter of its router
unfoldable pub is_upstream : Outcome (Option ℕ) → ℕ → Bool
is_upstream (refused n vs) a = false
is_upstream (value None) a = false
is_upstream (value (Some up)) a = eqb up a

-- a route, or the fault where there is none
unfoldable pub route_or : Fault → Option ℕ → Outcome (Option ℕ)
route_or f (Some r) = value (Some r)
route_or f None = refusal_of f

-- `upstream_route` of an adapter: of an upstream lane alone; 11 at depth 0
unfoldable pub upstream_route_of : ℕ → DeviceRow → AdapterRow → Outcome (Option ℕ)
upstream_route_of p d x =
    cond (is_lane x.kind && is_upstream d.upstream x.number) (route_or (NoParentRoute (adapter_site p x.number)) (upstream_route d.route)) (value None)

-- `downstream_route` of an adapter: of a lane alone; 12 at depth 8
unfoldable pub downstream_route_of : ℕ → DeviceRow → AdapterRow → Outcome (Option ℕ)
downstream_route_of p d x =
    cond (is_lane x.kind) (route_or (NoDownstreamRoute (adapter_site p x.number)) (downstream_route d.route x.number)) (value None)
