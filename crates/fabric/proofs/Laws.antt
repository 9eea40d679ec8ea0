-- Laws on the routes of adapters, on devices of tables and on where a hop leads, step by step. Assumes nothing.
use Prim.Native.Nat.{ℕ, suc, ◌+◌, ◌<◌}
use mathlib.Core.Bool.{Bool, true, false, cond, ◌&&◌}
use mathlib.Core.Path.{◌≡◌, refl, sym, ap, ◌∙◌, subst}
use mathlib.Core.List.{List, [], ◌∷◌}
use Rattle.std.specs.Prelude.{Option, None, Some, Result}
use Rattle.std.proofs.lemmas.Option.{same_Some, none-some}
use native.Mathlib.Omega.{arith}
use native.Mathlib.Decide.{dec_lt}
use lib.Dec.{eqb}
use lib.ListN.{length}
use Rattle.refusal.specs.Outcome.{Outcome, refused, value, bind}
use Rattle.refusal.specs.Refusal.{refusal_of}
use Rattle.refusal.specs.declared.WalkError.{WalkError}
use Rattle.refusal.specs.declared.Fault.TheVariants.{NoParentRoute, NoDownstreamRoute, NoOutAdapter}
use Rattle.usb4.specs.Numbers.{type_number}
use Rattle.usb4.specs.declared.AdapterType.{AdapterType}
use Rattle.usb4.specs.declared.AdapterType.TheVariants as type
use Rattle.route.specs.Route.{upstream_route, downstream_route, downstream_adapter}
use Rattle.adapter.specs.Adapter.{AdapterRow, adapter_site, is_lane}
use Rattle.tables.specs.Rows.{DeviceRow, EntryRow, Rows, adapter_in, device_in, is_router, router_from}
use Rattle.tables.specs.Packed.{Sorted, adapter_unit, entries_in, adapters_in, device_row, devices_from, devices_in}
use Rattle.tables.proofs.Laws.{device_past, has_number}
use Rattle.search.specs.Lanes.{lane_if, LaneSought}
use Rattle.load.specs.Answers.{present, asked_device}
use Rattle.fabric.specs.Links.{is_upstream, upstream_route_of, downstream_route_of, route_or}
use Rattle.fabric.specs.Fabric.{Way, Way.on, Way.last, Way.dropped, stand_by, up_by, arrive_up, down_by, arrive_down, to_device, to_router, to_route, leads_from, leads_by, leads}
use Rattle.tables.specs.declared.Tables.{Tables}
use Rattle.tables.specs.declared.DeviceFacts.{DeviceFacts}
use Rattle.tables.specs.Tables.{InOrder, rows_of}
use Rattle.fabric.specs.Tables.{rows_with, next_outcome, LeadsTo, lane_leads}
use Rattle.fabric.specs.declared.Next.{Next}

-- ---- routes

-- an adapter's kind is a lane's, or not
pub lane_kind : (k : AdapterType) → k ≡ type.Lane → is_lane k ≡ true
unfolding is_lane
lane_kind k e = ap (λ (t : AdapterType). eqb (type_number t) 2) e

pub no_lane_kind : (k : AdapterType) → (k ≡ type.Lane → ⊥) → is_lane k ≡ false
unfolding is_lane
no_lane_kind type.Inactive n = refl
no_lane_kind type.Lane n = absurd (n refl)
no_lane_kind type.HostInterface n = refl
no_lane_kind type.DisplayPortIn n = refl
no_lane_kind type.DisplayPortOut n = refl
no_lane_kind type.PcieDown n = refl
no_lane_kind type.PcieUp n = refl
no_lane_kind type.Usb3Down n = refl
no_lane_kind type.Usb3Up n = refl
no_lane_kind type.Usb3GenTDown n = refl
no_lane_kind type.Usb3GenTUp n = refl
no_lane_kind type.Unknown n = refl

module _ (p : ℕ) (d : DeviceRow) (x : AdapterRow) where
  pub up_no_lane : is_lane x.kind ≡ false → value None ≡ upstream_route_of p d x
  unfolding upstream_route_of
  up_no_lane e = rw e refl

  pub up_other : is_lane x.kind ≡ true → is_upstream d.upstream x.number ≡ false → value None ≡ upstream_route_of p d x
  unfolding upstream_route_of
  up_other e g = rw (e, g) refl

  pub up_route : is_lane x.kind ≡ true → is_upstream d.upstream x.number ≡ true → (f : Option ℕ) → upstream_route d.route ≡ f → route_or (NoParentRoute (adapter_site p x.number)) f ≡ upstream_route_of p d x
  unfolding upstream_route_of
  up_route e g f h = rw (e, g, h) refl

  pub down_no_lane : is_lane x.kind ≡ false → value None ≡ downstream_route_of p d x
  unfolding downstream_route_of
  down_no_lane e = rw e refl

  pub down_route : is_lane x.kind ≡ true → (f : Option ℕ) → downstream_route d.route x.number ≡ f → route_or (NoDownstreamRoute (adapter_site p x.number)) f ≡ downstream_route_of p d x
  unfolding downstream_route_of
  down_route e f h = rw (e, h) refl

-- ---- devices of tables

-- a device that is there, and a router that is found, have a place below the number of devices
pub device_below : (ds : List DeviceFacts) (q : ℕ) (d : DeviceRow) → device_in (devices_in ds) q ≡ Some d → q < length ds
device_below ds q d e = go (dec_lt q (length ds))
  where
    go : Dec (q < length ds) → q < length ds
    go (yes l) = l
    go (no l) = absurd (none-some d (device_past 0 ds q (omega arith) ∙ e))

router_from_lem : (p : ℕ) (ds : List DeviceFacts) (domain route q : ℕ) → router_from p (devices_from p ds) domain route ≡ Some q → q < p + length ds
unfolding router_from devices_from
router_from_lem p [] domain route q e = absurd (none-some q e)
router_from_lem p (d ∷ ds) domain route q e =
    go (is_router (device_row p d) && eqb (device_row p d).domain domain && eqb (device_row p d).route route) (router_from_lem (suc p) ds domain route q) e
  where
    go : (b : Bool) → (router_from (suc p) (devices_from (suc p) ds) domain route ≡ Some q → q < suc p + length ds)
        → cond b (Some p) (router_from (suc p) (devices_from (suc p) ds) domain route) ≡ Some q → q < p + suc (length ds)
    go true next g = omega (arith, same_Some p q g)
    go false next g = omega (arith, next g)

pub router_below : (ds : List DeviceFacts) (domain route q : ℕ) → router_from 0 (devices_in ds) domain route ≡ Some q → q < length ds
router_below ds domain route q e = omega (arith, router_from_lem 0 ds domain route q e)

-- in tables that are in order, such a place fits a key
pub device_fits : (tables : Tables) (q : ℕ) (d : DeviceRow) → InOrder tables → Some d ≡ device_in (devices_in tables.devices.now) q → q < 65536
device_fits tables q d k e = omega (arith, k.devices, device_below tables.devices.now q d (sym e))

pub router_fits : (tables : Tables) (domain route q : ℕ) → InOrder tables → Some q ≡ router_from 0 (devices_in tables.devices.now) domain route → q < 65536
router_fits tables domain route q k e = omega (arith, k.devices, router_below tables.devices.now domain route q (sym e))

-- ---- where a hop leads

-- an adapter that was sought: not there, or what it is
pub lane_none : (y : Option AdapterRow) → None ≡ lane_if y → None ≡ y
unfolding lane_if
lane_none None e = refl
lane_none (Some y) e = absurd (none-some (is_lane y.kind) e)

lane_some : (y : Option AdapterRow) (b : Bool) → Some b ≡ lane_if y → (z : AdapterRow) × (Some z ≡ y) × (is_lane z.kind ≡ b)
unfolding lane_if
lane_some None b e = absurd (none-some b (sym e))
lane_some (Some y) b e = (y, refl, sym (same_Some b (is_lane y.kind) e))

-- at an adapter that was sought
module _ (t : List ℕ) (q n : ℕ) (r : Option Bool) (h : LaneSought t q n r) (s : Sorted adapter_unit t) (l : q < 65536) where
  pub stood_nowhere : r ≡ None → dropped ≡ (stand_by q n (adapter_in (adapters_in t) q n))
  unfolding stand_by
  stood_nowhere e = ap (λ (o : Option AdapterRow). stand_by q n o) (lane_none (adapter_in (adapters_in t) q n) (sym (e) ∙ h.first l s))

  pub stood : (b : Bool) → r ≡ Some b → on q n ≡ (stand_by q n (adapter_in (adapters_in t) q n))
  unfolding stand_by
  stood b e = ap (λ (o : Option AdapterRow). stand_by q n o) (lane_some (adapter_in (adapters_in t) q n) b (sym e ∙ h.first l s)).1

-- what is found, but for an adapter that isn't there
pub there_or_not : (r : Option Bool) → (r ≡ None → ⊥) → (b : Bool) × (r ≡ Some b)
there_or_not (Some true) k = (true, refl)
there_or_not (Some false) k = (false, refl)
there_or_not None k = absurd (k refl)

-- to the router at a route: none there, its device lost, or there
module _ (x : Rows) (d : DeviceRow) (r : ℕ) (f : ℕ → DeviceRow → Outcome Way) where
  pub to_none : None ≡ router_from 0 x.devices d.domain r → value last ≡ to_route x d (Some r) f
  unfolding to_route to_router
  to_none e = ap (λ (o : Option ℕ). to_router x o f) e

  pub to_device_lem : (q : ℕ) (o : Option DeviceRow) → Some q ≡ router_from 0 x.devices d.domain r → o ≡ device_in x.devices q → to_device q o f ≡ to_route x d (Some r) f
  unfolding to_route to_router
  to_device_lem q o e g = ap (λ (z : Option DeviceRow). to_device q z f) g ∙ ap (λ (z : Option ℕ). to_router x z f) e

-- up to it, by the adapter behind which the device hangs; down to it, by its upstream adapter
module _ (x : Rows) (d : DeviceRow) (r q : ℕ) (e : DeviceRow) (at : Some q ≡ router_from 0 x.devices d.domain r) (there : Some e ≡ device_in x.devices q) where
  pub went_up : (a b : Option ℕ) → a ≡ downstream_adapter e.domain e.route d.domain d.route → a ≡ b → value (up_by x q b) ≡ to_route x d (Some r) (arrive_up x d)
  unfolding arrive_up to_device
  went_up a b g h = ap (λ (z : Option ℕ). value (up_by x q z)) (sym h ∙ g) ∙ to_device_lem x d r (arrive_up x d) q (Some e) at there

  pub went_down : (o : Outcome (Option ℕ)) → o ≡ e.upstream → bind o (λ n. value (down_by x q n)) ≡ to_route x d (Some r) (arrive_down x)
  unfolding arrive_down to_device
  went_down o g = ap (λ (z : Outcome (Option ℕ)). bind z (λ n. value (down_by x q n))) g ∙ to_device_lem x d r (arrive_down x) q (Some e) at there

-- from an out adapter that is there: one that is no lane, or a lane with a number
module _ (x : Rows) (p : ℕ) (d : DeviceRow) (y : AdapterRow) where
  abbrev from : Bool → Outcome Way
  from b = cond b (bind (upstream_route_of p d y) (λ r. to_route x d r (arrive_up x d))) (bind (downstream_route_of p d y) (λ r. to_route x d r (arrive_down x)))

  from_other : is_lane y.kind ≡ false → value last ≡ leads_from x p d y
  unfolding leads_from bind to_route
  from_other e = go (is_upstream d.upstream y.number)
    where
      go : (b : Bool) → value last ≡ from b
      go true = ap (λ o. bind o (λ r. to_route x d r (arrive_up x d))) (up_no_lane p d y e)
      go false = ap (λ o. bind o (λ r. to_route x d r (arrive_down x))) (down_no_lane p d y e)

  module _ (e : is_lane y.kind ≡ true) where
    from_up : is_upstream d.upstream y.number ≡ true → bind (route_or (NoParentRoute (adapter_site p y.number)) (upstream_route d.route)) (λ r. to_route x d r (arrive_up x d)) ≡ leads_from x p d y
    unfolding leads_from
    from_up g = ap (λ o. bind o (λ r. to_route x d r (arrive_up x d))) (up_route p d y e g _ refl) ∙ ap from (sym g)

    from_down : is_upstream d.upstream y.number ≡ false → bind (route_or (NoDownstreamRoute (adapter_site p y.number)) (downstream_route d.route y.number)) (λ r. to_route x d r (arrive_down x)) ≡ leads_from x p d y
    unfolding leads_from
    from_down g = ap (λ o. bind o (λ r. to_route x d r (arrive_down x))) (down_route p d y e _ refl) ∙ ap from (sym g)

-- from a device: not there, or by the out adapter that is asked for
module _ (x : Rows) (p o : ℕ) where
  pub leads_missing : None ≡ device_in x.devices p → refused 14 [] ≡ leads x p o
  unfolding leads asked_device present bind
  leads_missing e = ap (λ (z : Option DeviceRow). bind (present z) (λ d. leads_by x p o d (adapter_in x.adapters p o))) e

  pub leads_there : (d : DeviceRow) (y : Option AdapterRow) → Some d ≡ device_in x.devices p → y ≡ adapter_in x.adapters p o → leads_by x p o d y ≡ leads x p o
  unfolding leads asked_device present bind
  leads_there d y e g = ap (leads_by x p o d) g ∙ ap (λ (z : Option DeviceRow). bind (present z) (λ v. leads_by x p o v (adapter_in x.adapters p o))) e

-- from a device by an out adapter that was sought
module _ (es : List EntryRow) (tables : Tables) (p o : ℕ) (k : InOrder tables) (d : DeviceRow) (there : Some d ≡ device_in (devices_in tables.devices.now) p) (r : Option Bool) (h : LaneSought tables.adapters.now p o r) where
  abbrev at : Rows
  at = rows_with es tables

  is_lane_lem : r ≡ lane_if (adapter_in (adapters_in tables.adapters.now) p o)
  is_lane_lem = h.first (device_fits tables p d k there) k.adapters

  pub leads_nowhere : r ≡ None → refusal_of (NoOutAdapter (adapter_site p o)) ≡ leads at p o
  unfolding rows_with leads_by
  leads_nowhere e = leads_there at p o d None there (lane_none (adapter_in (adapters_in tables.adapters.now) p o) (sym (e) ∙ is_lane_lem))

  pub leads_other : r ≡ (Some false) → value last ≡ leads at p o
  unfolding rows_with leads_by
  leads_other e = let y = lane_some (adapter_in (adapters_in tables.adapters.now) p o) false (sym (e) ∙ is_lane_lem) in from_other at p d y.0 y.2 ∙ leads_there at p o d (Some y.0) there y.1

  module _ (e : r ≡ (Some true)) where
    lane_is : (z : AdapterRow) × (Some z ≡ adapter_in (adapters_in tables.adapters.now) p o) × (is_lane z.kind ≡ true)
    lane_is = lane_some (adapter_in (adapters_in tables.adapters.now) p o) true (sym (e) ∙ is_lane_lem)

    -- the out adapter's number is the one that is asked for
    by_number : (P : ℕ → Type 0) → P lane_is.0.number → P o
    by_number P = subst P (has_number (adapters_in tables.adapters.now) p o lane_is.0 (sym lane_is.1))

    from_lane : leads_from at p d lane_is.0 ≡ leads at p o
    unfolding rows_with leads_by
    from_lane = leads_there at p o d (Some lane_is.0) there lane_is.1

    pub leads_lane : lane_leads at p d o ≡ leads at p o
    unfolding lane_leads
    leads_lane = by_number (λ n. lane_leads at p d n ≡ leads at p o) (go (is_upstream d.upstream lane_is.0.number) refl ∙ from_lane)
      where
        go : (b : Bool) → is_upstream d.upstream lane_is.0.number ≡ b → lane_leads at p d lane_is.0.number ≡ leads_from at p d lane_is.0
        go true g = rw g (from_up at p d lane_is.0 lane_is.2 g)
        go false g = rw g (from_down at p d lane_is.0 lane_is.2 g)

-- what `?` makes of a route that is missing, and of one that is there
module _ (x : Rows) (p : ℕ) (d : DeviceRow) (n : ℕ) where
  pub lane_up : is_upstream d.upstream n ≡ true → (o : Option ℕ) → upstream_route d.route ≡ o → bind (route_or (NoParentRoute (adapter_site p n)) o) (λ r. to_route x d r (arrive_up x d)) ≡ lane_leads x p d n
  unfolding lane_leads
  lane_up g o e = rw (g, e) refl

  pub lane_down : is_upstream d.upstream n ≡ false → (o : Option ℕ) → downstream_route d.route n ≡ o → bind (route_or (NoDownstreamRoute (adapter_site p n)) o) (λ r. to_route x d r (arrive_down x)) ≡ lane_leads x p d n
  unfolding lane_leads
  lane_down g o e = rw (g, e) refl

-- over the tables' own entries
pub leads_own : {t : Tables} {f : Rows → Outcome Way} {r : Result Next WalkError} → LeadsTo t f r → InOrder t → next_outcome r ≡ f (rows_of t)
unfolding rows_of rows_with
leads_own {t} l k = l.leads_to k (entries_in t.entries.now)
