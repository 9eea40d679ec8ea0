-- Laws on where a device's receive paths come in, step by step, and that there is a router there. Assumes nothing.
use Prim.Native.Nat.{ℕ, ◌<◌}
use mathlib.Core.Bool.{Bool, true, false, cond}
use mathlib.Core.Path.{◌≡◌, refl, sym, ap, ◌∙◌}
use mathlib.Core.List.{List}
use Rattle.std.specs.Prelude.{Option, None, Some, Err, Ok, Result}
use native.Mathlib.Omega.{arith}
use Rattle.refusal.specs.Outcome.{Outcome, refused, value, bind}
use lib.Dec.{eqb}
use Rattle.usb4.specs.Numbers.{device_kind_number}
use Rattle.usb4.specs.declared.Kind.{Kind}
use Rattle.usb4.specs.declared.Kind.TheVariants as kind
use Rattle.route.specs.Route.{downstream_adapter}
use Rattle.adapter.specs.Adapter.{AdapterRow, min_hop}
use Rattle.tables.specs.Rows.{DeviceRow, Rows, adapter_in, device_in}
use Rattle.refusal.specs.Refusal.{fault_outcome, refusal_of}
use Rattle.refusal.proofs.Laws.{fault_bind}
use Rattle.fabric.proofs.Laws.{device_fits}
use Rattle.parents.specs.Parents.{parent_of}
use Rattle.receive.specs.Receive.{Lane, Lane.lane, Lane.passed, Lane.dropped, or_dropped, hops_of, beneath, under_router, under_parent, taken, lane_of}
use Rattle.receive.specs.Work.{lane_by, lane_at}
use Rattle.refusal.specs.Refusal.{fault_outcome, refusal_of}
use Rattle.tables.specs.declared.Tables.{Tables}
use Rattle.tables.specs.Tables.{InOrder, rows_of}
use Rattle.refusal.specs.declared.Fault.{Fault}

-- ---- the HopIDs of an adapter

module _ (q : ℕ) (y : AdapterRow) where
  pub no_least : None ≡ min_hop y.kind → value dropped ≡ hops_of q y
  unfolding hops_of or_dropped
  no_least e = ap (λ (o : Option ℕ). or_dropped o (λ lo. bind y.max_hop (λ m. or_dropped m (λ hi. value (lane q y.number lo hi))))) e

  pub with_least : (lo : ℕ) (o : Outcome (Option ℕ)) → Some lo ≡ min_hop y.kind → o ≡ y.max_hop → bind o (λ m. or_dropped m (λ hi. value (lane q y.number lo hi))) ≡ hops_of q y
  unfolding hops_of or_dropped
  with_least lo o e g =
      ap (λ (z : Outcome (Option ℕ)). bind z (λ m. or_dropped m (λ hi. value (lane q y.number lo hi)))) g
      ∙ ap (λ (z : Option ℕ). or_dropped z (λ l. bind y.max_hop (λ m. or_dropped m (λ hi. value (lane q y.number l hi))))) e

-- ---- a device's

pub no_xdomain : (k : Kind) → (k ≡ kind.Xdomain → ⊥) → false ≡ eqb (device_kind_number k) 2
no_xdomain kind.Domain n = refl
no_xdomain kind.Router n = refl
no_xdomain kind.Xdomain n = absurd (n refl)
no_xdomain kind.Retimer n = refl
no_xdomain kind.Service n = refl
no_xdomain kind.Unknown n = refl

-- no router, and the adapter beneath which it hangs
pub no_router : (x : Rows) (d : DeviceRow) (q : ℕ) → None ≡ device_in x.devices q → value passed ≡ under_router x d q (device_in x.devices q)
unfolding under_router
no_router x d q e = ap (under_router x d q) e

pub beneath_by : (x : Rows) (d e : DeviceRow) (q : ℕ) (a b : Option ℕ) → Some e ≡ device_in x.devices q → a ≡ downstream_adapter e.domain e.route d.domain d.route → a ≡ b → beneath x q b ≡ under_router x d q (device_in x.devices q)
unfolding under_router
beneath_by x d e q a b f g h = ap (beneath x q) (sym h ∙ g) ∙ ap (under_router x d q) f

pub beneath_at : (x : Rows) (q n : ℕ) (o : Option AdapterRow) → o ≡ adapter_in x.adapters q n → or_dropped o (hops_of q) ≡ beneath x q (Some n)
unfolding beneath
beneath_at x q n o e = ap (λ (z : Option AdapterRow). or_dropped z (hops_of q)) e

pub lane_nowhere : (x : Rows) (p : ℕ) → None ≡ device_in x.devices p → value passed ≡ lane_at x p
unfolding lane_at lane_by
lane_nowhere x p e = ap (lane_by x p) e

module _ (x : Rows) (p : ℕ) (d : DeviceRow) (at : Some d ≡ device_in x.devices p) where
  pub lane_left : taken d ≡ false → value passed ≡ lane_at x p
  unfolding lane_at lane_by lane_of
  lane_left e = ap (λ (b : Bool). cond b (bind (parent_of x p d) (under_parent x d)) (value passed)) (sym e) ∙ ap (lane_by x p) at

  lane_taken : taken d ≡ true → bind (parent_of x p d) (under_parent x d) ≡ lane_at x p
  unfolding lane_at lane_by lane_of
  lane_taken e = ap (λ (b : Bool). cond b (bind (parent_of x p d) (under_parent x d)) (value passed)) (sym e) ∙ ap (lane_by x p) at

  module _ (t : taken d ≡ true) (a : Result (Option ℕ) Fault) (e : fault_outcome a ≡ parent_of x p d) where
    lane_by_lem : bind (fault_outcome a) (under_parent x d) ≡ lane_at x p
    lane_by_lem = ap (λ (o : Outcome (Option ℕ)). bind o (under_parent x d)) e ∙ lane_taken t

    pub lane_refused : (r : Fault) → a ≡ Err r → refusal_of r ≡ lane_at x p
    lane_refused r g = sym (fault_bind r (under_parent x d)) ∙ ap (λ (b : Result (Option ℕ) Fault). bind (fault_outcome b) (under_parent x d)) (sym g) ∙ lane_by_lem

    pub lane_alone : a ≡ (Ok None) → value passed ≡ lane_at x p
    unfolding bind under_parent
    lane_alone g = ap (λ (b : Result (Option ℕ) Fault). bind (fault_outcome b) (under_parent x d)) (sym g) ∙ lane_by_lem

    pub lane_under : (q : ℕ) → a ≡ Ok (Some q) → {o : Outcome Lane} → o ≡ under_router x d q (device_in x.devices q) → o ≡ lane_at x p
    unfolding bind under_parent
    lane_under q g f = f ∙ ap (λ (b : Result (Option ℕ) Fault). bind (fault_outcome b) (under_parent x d)) (sym g) ∙ lane_by_lem

-- ---- there is a router

-- the router of a lane that comes of it is there
abbrev Stands : List DeviceRow → Outcome Lane → Type 0
Stands ds o = (q n lo hi : ℕ) → o ≡ value (lane q n lo hi) → (e : DeviceRow) × (Some e ≡ device_in ds q)

module _ (ds : List DeviceRow) where
  stands_refused : (k : ℕ) (vs : List ℕ) → Stands ds (refused k vs)
  stands_refused k vs q n lo hi e = absurd (let z : ◌≡◌ {A = ℕ} 0 1 = cc in omega arith)

  stands_dropped : Stands ds (value dropped)
  stands_dropped q n lo hi e = absurd (let z : ◌≡◌ {A = ℕ} 0 1 = cc in omega arith)

  stands_passed : Stands ds (value passed)
  stands_passed q n lo hi e = absurd (let z : ◌≡◌ {A = ℕ} 0 1 = cc in omega arith)

  stands_lane : (r m k l : ℕ) (y : DeviceRow) → Some y ≡ device_in ds r → Stands ds (value (lane r m k l))
  stands_lane r m k l y g q n lo hi e = (y, g ∙ ap (device_in ds) (let z : r ≡ q = cc in z))

  stands_or : {A : Type 0} (o : Option A) (f : A → Outcome Lane) → ((a : A) → Stands ds (f a)) → Stands ds (or_dropped o f)
  unfolding or_dropped
  stands_or None f g = stands_dropped
  stands_or (Some a) f g = g a

  stands_bind : {A : Type 0} (o : Outcome A) (f : A → Outcome Lane) → ((a : A) → Stands ds (f a)) → Stands ds (bind o f)
  unfolding bind
  stands_bind (refused k vs) f g = stands_refused k vs
  stands_bind (value a) f g = g a

module _ (x : Rows) where
  stands_beneath : (q : ℕ) (y : DeviceRow) → Some y ≡ device_in x.devices q → (a : Option ℕ) → Stands x.devices (beneath x q a)
  unfolding beneath hops_of
  stands_beneath q y g None = stands_passed _
  stands_beneath q y g (Some n) = stands_or _ _ _ (λ z. stands_or _ _ _ (λ lo. stands_bind _ _ _ (λ m. stands_or _ _ _ (λ hi. stands_lane _ q _ _ _ y g))))

  stands_router : (d : DeviceRow) (q : ℕ) (o : Option DeviceRow) → o ≡ device_in x.devices q → Stands x.devices (under_router x d q o)
  unfolding under_router
  stands_router d q None g = stands_passed _
  stands_router d q (Some y) g = stands_beneath q y g _

  stands_parent : (d : DeviceRow) (o : Option ℕ) → Stands x.devices (under_parent x d o)
  unfolding under_parent
  stands_parent d None = stands_passed _
  stands_parent d (Some q) = stands_router d q _ refl

  stands_cond : (b : Bool) (o : Outcome Lane) → Stands x.devices o → Stands x.devices (cond b o (value passed))
  stands_cond true o g = g
  stands_cond false o g = stands_passed _

  stands_by : (p : ℕ) (o : Option DeviceRow) → Stands x.devices (lane_by x p o)
  unfolding lane_by lane_of
  stands_by p None = stands_passed _
  stands_by p (Some d) = stands_cond (taken d) _ (stands_bind _ (parent_of x p d) _ (stands_parent d))

-- in tables in order, its place fits a key
pub lane_fits : (tables : Tables) (p q n lo hi : ℕ) → InOrder tables → value (lane q n lo hi) ≡ lane_at (rows_of tables) p → q < 65536
unfolding lane_at rows_of
lane_fits tables p q n lo hi k e = let w = stands_by (rows_of tables) p _ q n lo hi (sym e) in device_fits tables q w.0 k w.1
