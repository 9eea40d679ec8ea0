-- Document 01, module 7: where a hop leads, on the rows of a loaded survey. Assumes nothing.
use Rattle.std.specs.Prelude.{Option, None, Some, ℕ, cond}
use Rattle.refusal.specs.Outcome.{Outcome, value, bind}
use Rattle.refusal.specs.Refusal.{refusal_of}
use Rattle.refusal.specs.declared.Fault.TheVariants.{NoOutAdapter}
use Rattle.route.specs.Route.{downstream_adapter}
use Rattle.adapter.specs.Adapter.{AdapterRow, adapter_site}
use Rattle.tables.specs.Rows.{DeviceRow, Rows, adapter_in, device_in, router_from}
use Rattle.load.specs.Answers.{asked_device}
use Rattle.fabric.specs.Links.{is_upstream, upstream_route_of, downstream_route_of}

-- where a walk goes after a hop: on to a device's place and one of its adapters; no further, this hop last; or no path at all
pub data Way : Type 0 where
  on : ℕ → ℕ → Way
  last : Way
  dropped : Way

-- at adapter n of the device at place q; a missing one gives no path at all
unfoldable pub stand_by : ℕ → ℕ → Option AdapterRow → Way
stand_by q n None = dropped
stand_by q n (Some y) = on q n

unfoldable pub stand_at : Rows → ℕ → ℕ → Way
stand_at x q n = stand_by q n (adapter_in x.adapters q n)

-- up: `downstream_adapter`, the adapter of the router above, e, behind which d hangs
unfoldable pub up_by : Rows → ℕ → Option ℕ → Way
up_by x q None = dropped
up_by x q (Some n) = stand_at x q n

unfoldable pub arrive_up : Rows → DeviceRow → ℕ → DeviceRow → Outcome Way
arrive_up x d q e = value (up_by x q (downstream_adapter e.domain e.route d.domain d.route))

-- down: the upstream adapter of the router below, or 6
unfoldable pub down_by : Rows → ℕ → Option ℕ → Way
down_by x q None = dropped
down_by x q (Some n) = stand_at x q n

unfoldable pub arrive_down : Rows → ℕ → DeviceRow → Outcome Way
arrive_down x q e = bind e.upstream (λ n. value (down_by x q n))

-- a device's place and its row
unfoldable pub to_device : ℕ → Option DeviceRow → (ℕ → DeviceRow → Outcome Way) → Outcome Way
to_device q None f = value dropped
to_device q (Some e) f = f q e

-- the search for a router: none there, and the walk goes no further, this hop last
unfoldable pub to_router : Rows → Option ℕ → (ℕ → DeviceRow → Outcome Way) → Outcome Way
to_router x None f = value last
to_router x (Some q) f = to_device q (device_in x.devices q) f

-- the first router of the device's domain at a route; an adapter that is no lane has no route, and its hop is the last
unfoldable pub to_route : Rows → DeviceRow → Option ℕ → (ℕ → DeviceRow → Outcome Way) → Outcome Way
to_route x d None f = value last
to_route x d (Some r) f = to_router x (router_from 0 x.devices d.domain r) f

-- from an out adapter: the upstream one leads up, or 11; any other down, or 12
unfoldable pub leads_from : Rows → ℕ → DeviceRow → AdapterRow → Outcome Way
leads_from x p d y =
    cond (is_upstream d.upstream y.number)
    (bind (upstream_route_of p d y) (λ r. to_route x d r (arrive_up x d)))
    (bind (downstream_route_of p d y) (λ r. to_route x d r (arrive_down x)))

-- 10 where the out adapter isn't on the router, with the missing number
unfoldable pub leads_by : Rows → ℕ → ℕ → DeviceRow → Option AdapterRow → Outcome Way
leads_by x p o d None = refusal_of (NoOutAdapter (adapter_site p o))
leads_by x p o d (Some y) = leads_from x p d y

-- where a hop from the device at place p by out adapter o leads
unfoldable pub leads : Rows → ℕ → ℕ → Outcome Way
leads x p o = bind (asked_device x p) (λ d. leads_by x p o d (adapter_in x.adapters p o))
