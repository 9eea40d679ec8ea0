-- Document 01, module 7, `discover_one_dma`: the receive path of a ring, on the rows of a loaded survey. Assumes nothing.
use Rattle.std.specs.Prelude.{ℕ, zero, suc, ◌+◌, ◌-◌, Bool, false, cond, List, [], ◌∷◌, eqb, Option, None, Some}
use Rattle.refusal.specs.Outcome.{Outcome, value, bind}
use Rattle.route.specs.Route.{downstream_adapter}
use Rattle.adapter.specs.Adapter.{AdapterRow, min_hop}
use Rattle.tables.specs.Rows.{EntryRow, DeviceRow, Rows, adapter_in, device_in}
use Rattle.parents.specs.Parents.{is_xdomain, parent_of}
use Rattle.walk.specs.Rule.{walk_from}
use Rattle.walk.specs.Tables.{last_of}
use Rattle.tables.specs.declared.Stand.{Stand}

unfoldable pub at : ℕ → ℕ → ℕ → Stand
at p a h = record { place = p; adapter = a; hop_id = h }

-- ---- where a device's receive paths come in

-- HopIDs of a lane adapter: adapter n of the router at place q, lo to hi; none, where the device is passed over; or the ring's tunnel is dropped
pub data Lane : Type 0 where
  lane : ℕ → ℕ → ℕ → ℕ → Lane
  passed : Lane
  dropped : Lane

-- the ring's tunnel is dropped where a lane adapter is missing, or has no least or no largest HopID: the Rust's `?`
unfoldable pub or_dropped : {A : Type 0} → Option A → (A → Outcome Lane) → Outcome Lane
or_dropped None f = value dropped
or_dropped (Some a) f = f a

-- the HopIDs of an adapter of the router at place q, least to largest, or 6
unfoldable pub hops_of : ℕ → AdapterRow → Outcome Lane
hops_of q y = or_dropped (min_hop y.kind) (λ lo. bind y.max_hop (λ m. or_dropped m (λ hi. value (lane q y.number lo hi))))

-- `downstream_adapter` of the parent, the router at place q; none, and the xdomain is passed over
unfoldable pub beneath : Rows → ℕ → Option ℕ → Outcome Lane
beneath x q None = value passed
beneath x q (Some n) = or_dropped (adapter_in x.adapters q n) (hops_of q)

unfoldable pub under_router : Rows → DeviceRow → ℕ → Option DeviceRow → Outcome Lane
under_router x d q None = value passed
under_router x d q (Some e) = beneath x q (downstream_adapter e.domain e.route d.domain d.route)

-- an xdomain without a parent is passed over
unfoldable pub under_parent : Rows → DeviceRow → Option ℕ → Outcome Lane
under_parent x d None = value passed
under_parent x d (Some q) = under_router x d q (device_in x.devices q)

-- the devices that are looked at: xdomains, of any domain
unfoldable pub taken : DeviceRow → Bool
taken d = is_xdomain d

-- of the device d at place p; 11 as its parent is sought
unfoldable pub lane_of : Rows → ℕ → DeviceRow → Outcome Lane
lane_of x p d = cond (taken d) (bind (parent_of x p d) (under_parent x d)) (value passed)

-- ---- the search

-- what a search comes to: a path, none, or the ring's tunnel is dropped
pub data Receive : Type 0 where
  received : List EntryRow → Receive
  nothing : Receive
  lost : Receive

-- a path whose last hop leaves by the ring
unfoldable pub uses_ring : ℕ → List EntryRow → Bool
uses_ring ring [] = false
uses_ring ring (h ∷ hs) = eqb (last_of h hs).out_hop ring

-- a walk's path if it uses the ring; else what the HopIDs after it give
unfoldable pub or_rest : ℕ → Outcome Receive → Option (List EntryRow) → Outcome Receive
or_rest ring rest None = rest
or_rest ring rest (Some hs) = cond (uses_ring ring hs) (value (received hs)) rest

-- k HopIDs of adapter n of the router at place q, from h on: the first path that uses the ring
unfoldable pub among_hops : Rows → ℕ → ℕ → ℕ → ℕ → ℕ → Outcome Receive
among_hops x ring q n h zero = value nothing
among_hops x ring q n h (suc k) = bind (walk_from x (at q n h)) (or_rest ring (among_hops x ring q n (suc h) k))

unfoldable pub at_lane : Rows → ℕ → Lane → Outcome Receive
at_lane x ring (lane q n lo hi) = among_hops x ring q n lo (hi + 1 - lo)
at_lane x ring passed = value nothing
at_lane x ring dropped = value lost

-- the devices in order, to the first that has a receive path or drops the tunnel
unfoldable pub or_next : Outcome Receive → Receive → Outcome Receive
or_next rest (received hs) = value (received hs)
or_next rest nothing = rest
or_next rest lost = value lost

unfoldable pub among_devices : Rows → ℕ → ℕ → List DeviceRow → Outcome Receive
among_devices x ring p [] = value nothing
among_devices x ring p (d ∷ ds) = bind (bind (lane_of x p d) (at_lane x ring)) (or_next (among_devices x ring (suc p) ds))

unfoldable pub receive : Rows → ℕ → Outcome Receive
receive x ring = among_devices x ring 0 x.devices
