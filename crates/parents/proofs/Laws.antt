-- Laws on parents. Assumes nothing.
use Prim.Native.Nat.{ℕ}
use mathlib.Core.Path.{◌≡◌, refl, sym, ap, ◌∙◌}
use Rattle.std.specs.Prelude.{Option, None, Some, Ok, Result}
use mathlib.Core.List.{[]}
use mathlib.Core.Bool.{cond}
use lib.Dec.{eqb}
use Rattle.usb4.specs.declared.Kind.{Kind}
use Rattle.usb4.specs.declared.Kind.TheVariants as kind
use Rattle.refusal.specs.Outcome.{Outcome, refused, value, bind}
use Rattle.refusal.specs.declared.Fault.TheVariants.{NoParentRoute}
use Rattle.usb4.specs.Numbers.{device_kind_number}
use Rattle.route.specs.Route.{upstream_route}
use Rattle.adapter.specs.Adapter.{AdapterRow, adapter_site}
use Rattle.tables.specs.Rows.{Rows, DeviceRow, adapter_in, device_in, is_router}
use Rattle.tables.specs.Packed.{device_row, entries_in, devices_in}
use Rattle.tables.specs.Tables.{InOrder, Tabled, rows_of}
use Rattle.tables.specs.declared.Tables.{Tables}
use Rattle.load.specs.Answers.{asked_device, present}
use Rattle.fabric.proofs.Laws.{device_fits}
use Rattle.refusal.specs.Refusal.{fault_outcome, field_at}
use Rattle.refusal.specs.declared.Fault.{Fault}
use Rattle.tables.specs.declared.DeviceFacts.{DeviceFacts}
use Rattle.fabric.specs.Links.{route_or, upstream_route_of}
use Rattle.fabric.specs.Tables.{rows_with}
use Rattle.parents.specs.Parents.{router_at, parent_by, upstream_in, router_parent, is_xdomain, xdomain_parent, parent_of}
use Rattle.parents.specs.Tables.{ParentIs}
use Rattle.refusal.specs.declared.FieldError.{FieldError}

-- a router's, by what its upstream adapter is, by whether that adapter is there, and by the route before it
module _ (x : Rows) (p : ℕ) (d : DeviceFacts) where
  pub by_upstream : (u : Result (Option ℕ) FieldError) → d.upstream ≡ u → bind (field_at (adapter_site p 0) u) (λ a. parent_by x p (device_row p d) (upstream_in x p a)) ≡ router_parent x p (device_row p d)
  unfolding router_parent device_row
  by_upstream u e = ap (λ (v : Result (Option ℕ) FieldError). bind (field_at (adapter_site p 0) v) (λ a. parent_by x p (device_row p d) (upstream_in x p a))) (sym e)

  pub by_adapter : (a : ℕ) (o : Option AdapterRow) → d.upstream ≡ Ok (Some a) → o ≡ adapter_in x.adapters p a → parent_by x p (device_row p d) o ≡ router_parent x p (device_row p d)
  unfolding bind upstream_in
  by_adapter a o e g = ap (parent_by x p (device_row p d)) g ∙ by_upstream (Ok (Some a)) e

  pub by_route : (a : ℕ) (y : AdapterRow) (o : Outcome (Option ℕ)) → d.upstream ≡ Ok (Some a) → Some y ≡ adapter_in x.adapters p a → o ≡ upstream_route_of p (device_row p d) y
      → bind o (λ r. value (router_at x (device_row p d) r)) ≡ router_parent x p (device_row p d)
  unfolding parent_by
  by_route a y o e g h = ap (λ (z : Outcome (Option ℕ)). bind z (λ r. value (router_at x (device_row p d) r))) h ∙ by_adapter a (Some y) e g

module _ (x : Rows) (p : ℕ) (d : DeviceRow) where
  -- an xdomain's, by the route before it
  pub xdomain_by : (f : Option ℕ) → upstream_route d.route ≡ f → bind (route_or (NoParentRoute (adapter_site p 0)) f) (λ r. value (router_at x d r)) ≡ xdomain_parent x p d
  unfolding xdomain_parent
  xdomain_by f e = rw e refl

  pub of_router : d.kind ≡ kind.Router → router_parent x p d ≡ parent_of x p d
  unfolding parent_of is_router
  of_router e = rw e refl

  pub of_xdomain : d.kind ≡ kind.Xdomain → xdomain_parent x p d ≡ parent_of x p d
  unfolding parent_of is_router is_xdomain
  of_xdomain e = rw e refl

  pub of_other : (d.kind ≡ kind.Router → ⊥) → (d.kind ≡ kind.Xdomain → ⊥) → value None ≡ parent_of x p d
  unfolding parent_of is_router is_xdomain
  of_other m n = go d.kind refl
    where
      parent_by_kind : Kind → Outcome (Option ℕ)
      parent_by_kind k = cond (eqb (device_kind_number k) 1) (router_parent x p d) (cond (eqb (device_kind_number k) 2) (xdomain_parent x p d) (value None))

      go : (k : Kind) → d.kind ≡ k → value None ≡ parent_by_kind k
      go kind.Domain e = refl
      go kind.Router e = absurd (m e)
      go kind.Xdomain e = absurd (n e)
      go kind.Retimer e = refl
      go kind.Service e = refl
      go kind.Unknown e = refl

-- what is asked of a device that isn't there, and of one that is there, in tables in order
none_by : {A : Type 0} (x : Rows) (p : ℕ) (f : DeviceRow → Outcome A) → None ≡ device_in x.devices p → refused 14 [] ≡ bind (asked_device x p) f
unfolding asked_device present bind
none_by x p f e = ap (λ (o : Option DeviceRow). bind (present o) f) e

module _ (t : Tables) (p : ℕ) where
  pub none_asked : None ≡ device_in (devices_in t.devices.now) p → refused 14 [] ≡ bind (asked_device (rows_of t) p) (λ d. parent_of (rows_of t) p d)
  unfolding rows_of
  none_asked e = none_by (rows_of t) p (λ d. parent_of (rows_of t) p d) e

  pub parent_asked : (d : DeviceRow) → Tabled t → Some d ≡ device_in (devices_in t.devices.now) p → (r : Result (Option ℕ) Fault) → ParentIs t p (λ x. parent_of x p d) r
      → fault_outcome r ≡ bind (asked_device (rows_of t) p) (λ d. parent_of (rows_of t) p d)
  unfolding rows_of rows_with asked_device present bind
  parent_asked d k e r h =
      let o : InOrder t = k.others in
      h.is o (device_fits t p d o e) (entries_in t.entries.now) ∙ ap (λ (z : Option DeviceRow). bind (present z) (λ d. parent_of (rows_of t) p d)) e
