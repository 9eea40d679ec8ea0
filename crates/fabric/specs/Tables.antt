-- Where a hop leads, on tables. Assumes nothing.
use Rattle.std.specs.Prelude.{Result, Ok, Err, ℕ, ◌≡◌, cond, List}
use Rattle.refusal.specs.Outcome.{Outcome, value, bind}
use Rattle.refusal.specs.Refusal.{refused_by, of_walk}
use Rattle.refusal.specs.declared.WalkError.{WalkError}
use Rattle.refusal.specs.declared.Fault.TheVariants.{NoParentRoute, NoDownstreamRoute}
use Rattle.route.specs.Route.{upstream_route, downstream_route}
use Rattle.adapter.specs.Adapter.{adapter_site}
use Rattle.tables.specs.Rows.{DeviceRow, EntryRow, Rows}
use Rattle.tables.specs.Packed.{adapters_in, devices_in}
use Rattle.tables.specs.Tables.{InOrder}
use Rattle.tables.specs.declared.Tables.{Tables}
use Rattle.fabric.specs.Links.{is_upstream, route_or}
use Rattle.fabric.specs.Fabric.{Way, Way.on, Way.last, Way.dropped, to_route, arrive_up, arrive_down}
use Rattle.fabric.specs.declared.Next.{Next}
use Rattle.fabric.specs.declared.Next.TheVariants as next

-- the rows of tables, with any entries: where a hop leads, they play no part
unfoldable pub rows_with : List EntryRow → Tables → Rows
rows_with es t = record { entries = es; adapters = adapters_in t.adapters.now; devices = devices_in t.devices.now }

-- where a walk goes, as the definition says it
abbrev pub way_of : Next → Way
way_of (next.On q a) = on q a
way_of next.Last = last
way_of next.Dropped = dropped

-- document 01's number and values for what is answered
unfoldable pub next_outcome : Result Next WalkError → Outcome Way
next_outcome (Ok n) = value (way_of n)
next_outcome (Err e) = refused_by (of_walk e)

-- In tables that are in order it is what f says of their rows. In any others it is free, but that it is a fault or 14 where it is refused.
pub record LeadsTo (tables : Tables) (f : Rows → Outcome Way) (r : Result Next WalkError) : Type 0 where
  pub leads_to : InOrder tables → (es : List EntryRow) → next_outcome r ≡ f (rows_with es tables)

-- from lane n of a router d: up where it is the upstream adapter, or 11; else down, or 12
unfoldable pub lane_leads : Rows → ℕ → DeviceRow → ℕ → Outcome Way
lane_leads x p d n =
    cond (is_upstream d.upstream n)
    (bind (route_or (NoParentRoute (adapter_site p n)) (upstream_route d.route)) (λ o. to_route x d o (arrive_up x d)))
    (bind (route_or (NoDownstreamRoute (adapter_site p n)) (downstream_route d.route n)) (λ o. to_route x d o (arrive_down x)))
