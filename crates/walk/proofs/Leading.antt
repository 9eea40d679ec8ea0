-- Where hops lead, on rows and on tables: to devices that are there, or to 6, 10, 11 or 12. Assumes nothing.
use Prim.Native.Nat.{ℕ, zero, suc, ◌<◌}
use mathlib.Core.Path.{◌≡◌, refl, subst}
use mathlib.Core.Bool.{Bool, true, false, cond, ◌&&◌}
use mathlib.Core.List.{List, [], ◌∷◌}
use Rattle.std.specs.Prelude.{Option, None, Some, Result, Ok, Err}
use Rattle.std.proofs.lemmas.Option.{none-some}
use native.Mathlib.Omega.{arith}
use lib.ListN.{length}
use Rattle.refusal.specs.Outcome.{Outcome, refused, value, bind}
use Rattle.refusal.specs.Refusal.{refusal_of, field_at}
use Rattle.refusal.specs.declared.FieldError.{FieldError}
use Rattle.refusal.specs.declared.Site.{Site}
use Rattle.refusal.specs.declared.Fault.TheVariants.{NoParentRoute, NoDownstreamRoute}
use Rattle.route.specs.Route.{upstream_route, downstream_route}
use Rattle.adapter.specs.Adapter.{AdapterRow, adapter_site, is_lane}
use Rattle.tables.specs.Rows.{DeviceRow, Rows, adapter_in, device_in}
use Rattle.tables.specs.Packed.{device_row, devices_from}
use Rattle.load.specs.Answers.{present, asked_device}
use Rattle.fabric.specs.Links.{is_upstream, route_or, upstream_route_of, downstream_route_of}
use Rattle.fabric.specs.Fabric.{Way, Way.on, Way.last, Way.dropped, stand_by, stand_at, up_by, arrive_up, down_by, arrive_down, to_device, to_router, to_route, leads_from, leads_by, leads}
use Rattle.fabric.proofs.Laws.{device_below}
use Rattle.walk.specs.Rule.{walk_fault}
use Rattle.tables.specs.declared.Tables.{Tables}
use Rattle.tables.specs.declared.DeviceFacts.{DeviceFacts}
use Rattle.tables.specs.Tables.{rows_of}

-- a device stands at the place
abbrev pub There : Rows → ℕ → Type 0
There x p = (d : DeviceRow) × (device_in x.devices p ≡ Some d)

-- a refusal is one that a walk may be refused with
abbrev pub Faulty : {A : Type 0} → Outcome A → Type 0
Faulty (refused k vs) = walk_fault k ≡ true
Faulty (value a) = Unit {0}

-- and a place is one where a device stands
abbrev Lands : Rows → Outcome Way → Type 0
Lands x (refused k vs) = walk_fault k ≡ true
Lands x (value (on q a)) = There x q
Lands x (value last) = Unit {0}
Lands x (value dropped) = Unit {0}

upstream_route_lem : (p : ℕ) (d : DeviceRow) (y : AdapterRow) → Faulty (upstream_route_of p d y)
unfolding upstream_route_of route_or refusal_of walk_fault
upstream_route_lem p d y = go (is_lane y.kind && is_upstream d.upstream y.number) (upstream_route d.route)
  where
    go : (b : Bool) (r : Option ℕ) → Faulty (cond b (route_or (NoParentRoute (adapter_site p y.number)) r) (value None))
    go true (Some r) = tt
    go true None = refl
    go false r = tt

downstream_route_lem : (p : ℕ) (d : DeviceRow) (y : AdapterRow) → Faulty (downstream_route_of p d y)
unfolding downstream_route_of route_or refusal_of walk_fault
downstream_route_lem p d y = go (is_lane y.kind) (downstream_route d.route y.number)
  where
    go : (b : Bool) (r : Option ℕ) → Faulty (cond b (route_or (NoDownstreamRoute (adapter_site p y.number)) r) (value None))
    go true (Some r) = tt
    go true None = refl
    go false r = tt

-- the upstream adapters of rows are refused in no other way
abbrev pub Upstreams : Rows → Type 0
Upstreams x = (q : ℕ) (e : DeviceRow) → device_in x.devices q ≡ Some e → Faulty e.upstream

module _ (x : Rows) where
  lands_stand : (q n : ℕ) (y : Option AdapterRow) → There x q → Lands x (value (stand_by q n y))
  unfolding stand_by
  lands_stand q n None t = tt
  lands_stand q n (Some y) t = t

  lands_up : (q : ℕ) (f : Option ℕ) → There x q → Lands x (value (up_by x q f))
  unfolding up_by stand_at
  lands_up q None t = tt
  lands_up q (Some n) t = lands_stand q n _ t

  lands_down : (q : ℕ) (u : Outcome (Option ℕ)) → There x q → Faulty u → Lands x (bind u (λ n. value (down_by x q n)))
  unfolding bind down_by stand_at
  lands_down q (refused k vs) t s = s
  lands_down q (value None) t s = tt
  lands_down q (value (Some n)) t s = lands_stand q n _ t

  abbrev Arrives : (ℕ → DeviceRow → Outcome Way) → Type 0
  Arrives f = (q : ℕ) (e : DeviceRow) → device_in x.devices q ≡ Some e → Lands x (f q e)

  lands_device : (f : ℕ → DeviceRow → Outcome Way) (q : ℕ) (o : Option DeviceRow) → device_in x.devices q ≡ o → Arrives f → Lands x (to_device q o f)
  unfolding to_device
  lands_device f q None e g = tt
  lands_device f q (Some d) e g = g q d e

  lands_router : (f : ℕ → DeviceRow → Outcome Way) (o : Option ℕ) → Arrives f → Lands x (to_router x o f)
  unfolding to_router
  lands_router f None g = tt
  lands_router f (Some q) g = lands_device f q _ refl g

  lands_route : (f : ℕ → DeviceRow → Outcome Way) (d : DeviceRow) (o : Outcome (Option ℕ)) → Faulty o → Arrives f → Lands x (bind o (λ r. to_route x d r f))
  unfolding bind to_route
  lands_route f d (refused k vs) s g = s
  lands_route f d (value None) s g = tt
  lands_route f d (value (Some r)) s g = lands_router f _ g

  lands_cond : (b : Bool) (o w : Outcome Way) → Lands x o → Lands x w → Lands x (cond b o w)
  lands_cond true o w l m = l
  lands_cond false o w l m = m

  lands_from : (p : ℕ) (d : DeviceRow) (y : AdapterRow) → Upstreams x → Lands x (leads_from x p d y)
  unfolding leads_from arrive_up arrive_down
  lands_from p d y s = lands_cond (is_upstream d.upstream y.number) _ _
      (lands_route (arrive_up x d) d (upstream_route_of p d y) (upstream_route_lem p d y) (λ q e h. lands_up q _ (e, h)))
      (lands_route (arrive_down x) d (downstream_route_of p d y) (downstream_route_lem p d y) (λ q e h. lands_down q e.upstream (e, h) (s q e h)))

  lands_by : (p o : ℕ) (d : DeviceRow) (y : Option AdapterRow) → Upstreams x → Lands x (leads_by x p o d y)
  unfolding leads_by refusal_of walk_fault
  lands_by p o d None s = refl
  lands_by p o d (Some y) s = lands_from p d y s

  lands : (p o : ℕ) (d : DeviceRow) → device_in x.devices p ≡ Some d → Upstreams x → Lands x (leads x p o)
  unfolding leads asked_device present bind
  lands p o d e s = rw e (lands_by p o d _ s)

  -- a device that is asked for and there
  pub asked_there : (p : ℕ) (d : DeviceRow) → asked_device x p ≡ value d → There x p
  unfolding asked_device present
  asked_there p d q = go (device_in x.devices p) q
    where
      go : (o : Option DeviceRow) → present o ≡ value d → (e : DeviceRow) × (o ≡ Some e)
      go None r = absurd (let z : ◌≡◌ {A = ℕ} 0 1 = cc in omega arith)
      go (Some e) r = (e, refl)

  -- a hop leads on only from a device that is there
  leads_from_lem : (p o : ℕ) (w : Way) → leads x p o ≡ value w → There x p
  unfolding leads asked_device present bind
  leads_from_lem p o w q = go (device_in x.devices p) q
    where
      go : (y : Option DeviceRow) → bind (present y) (λ d. leads_by x p o d (adapter_in x.adapters p o)) ≡ value w → (e : DeviceRow) × (y ≡ Some e)
      go None r = absurd (let z : ◌≡◌ {A = ℕ} 0 1 = cc in omega arith)
      go (Some e) r = (e, refl)

  pub leads_there : Upstreams x → (p o q a : ℕ) → leads x p o ≡ value (on q a) → There x q
  leads_there s p o q a e = let w = leads_from_lem p o (on q a) e in subst (Lands x) e (lands p o w.0 w.1 s)

  pub leads_fault : Upstreams x → (p o k : ℕ) (vs : List ℕ) → There x p → leads x p o ≡ refused k vs → walk_fault k ≡ true
  leads_fault s p o k vs w e = subst (Lands x) e (lands p o w.0 w.1 s)

-- ---- on tables

upstream_read : (s : Site) (r : Result (Option ℕ) FieldError) → Faulty (field_at s r)
unfolding refusal_of walk_fault
upstream_read s (Ok a) = tt
upstream_read s (Err e) = refl

upstreams_from : (p : ℕ) (ds : List DeviceFacts) (q : ℕ) (e : DeviceRow) → device_in (devices_from p ds) q ≡ Some e → Faulty e.upstream
unfolding devices_from device_in device_row
upstreams_from p [] q e h = absurd (none-some e h)
upstreams_from p (d ∷ ds) zero e h = let z : device_row p d ≡ e = cc in subst (λ (x : DeviceRow). Faulty x.upstream) z (upstream_read _ _)
upstreams_from p (d ∷ ds) (suc q) e h = upstreams_from (suc p) ds q e h

pub upstreams : (tables : Tables) → Upstreams (rows_of tables)
unfolding rows_of
upstreams tables = upstreams_from 0 tables.devices.now

pub there_below : (tables : Tables) (q : ℕ) → There (rows_of tables) q → q < length tables.devices.now
unfolding rows_of
there_below tables q (d, e) = device_below tables.devices.now q d e
