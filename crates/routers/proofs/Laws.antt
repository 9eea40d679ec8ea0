-- Laws on searches in a table of devices. Assumes nothing.
use Prim.Native.Nat.{ℕ, zero, suc, ◌<◌}
use native.Mathlib.Omega.{arith}
use lib.ListN.{length}
use mathlib.Core.Path.{◌≡◌, refl, sym, ap, ◌∙◌}
use mathlib.Core.Bool.{Bool, true, false, cond, ◌&&◌}
use mathlib.Core.List.{List, [], ◌∷◌}
use native.Mathlib.Numerals.{add-one}
use borrow.Author.Tests.{eq-eqb, ne_eqb}
use lib.Dec.{eqb}
use Rattle.std.specs.Prelude.{Option, None, Some, slice_get}
use Rattle.std.proofs.Common.{Bor}
use Rattle.std.specs.List.{position, position_from, HoldsAt}
use Rattle.std.specs.Option.{option_copied}
use Rattle.std.specs.Slice.{IsItemAt}
use Rattle.std.proofs.lemmas.Option.{slice_get_past}
use Rattle.std.proofs.lemmas.Iterator.Adapters.{position_from-zero}
use Rattle.usb4.specs.Numbers.{device_kind_number}
use Rattle.usb4.specs.declared.Kind.TheVariants as kind
use Rattle.tables.specs.declared.DeviceFacts.{DeviceFacts}
use Rattle.tables.specs.Packed.{device_row, devices_from}
use Rattle.tables.specs.Rows.{is_router, router_from}
use Rattle.routers.specs.Work.{stands_at}

-- ---- a device's tests, the last first
and_true : (a : Bool) → a ≡ (a && true)
and_true true = refl
and_true false = refl

and_false : (a : Bool) → false ≡ (a && false)
and_false true = refl
and_false false = refl

module _ (domain route : ℕ) (d : DeviceFacts) (v : Bool) where
  abbrev of_kind : Bool
  of_kind = eqb (device_kind_number d.kind) (device_kind_number kind.Router)

  pub by_kind : v ≡ of_kind → eqb d.domain domain ≡ true → d.route ≡ route → v ≡ stands_at domain route d
  unfolding stands_at
  by_kind e f g = rw (f, eq-eqb _ _ g) (e ∙ and_true of_kind ∙ and_true (of_kind && true))

  pub by_domain : v ≡ eqb d.domain domain → v ≡ false → v ≡ stands_at domain route d
  unfolding stands_at
  by_domain e f = rw (sym e, f) (ap (λ x. x && eqb d.route route) (and_false of_kind))

  pub by_route : (d.route ≡ route → ⊥) → v ≡ false → v ≡ stands_at domain route d
  unfolding stands_at
  by_route e f = rw (ne_eqb _ _ e, f) (and_false (of_kind && eqb d.domain domain))

-- what `get` lends is the element
pub lent_at : (ds : List DeviceFacts) (i : ℕ) (r : Option (Bor DeviceFacts)) → IsItemAt ds i r → option_copied r ≡ slice_get ds i
lent_at ds i None g = sym (slice_get_past ds i g.3)
lent_at ds i (Some x) g = go ds i g.3.0 g.3.1
  where
    go : (es : List DeviceFacts) (k : ℕ) → k < length es → HoldsAt (λ y. x.now ≡ y) es k → Some x.now ≡ slice_get es k
    go [] k l h = absurd (omega arith)
    go (e ∷ es) zero l h = ap Some (h e)
    go (e ∷ es) (suc k) l h = go es k (omega arith) h

module _ (domain route : ℕ) where
  first_from : (q : ℕ) (ds : List DeviceFacts) → position_from (stands_at domain route) q ds ≡ router_from q (devices_from q ds) domain route
  unfolding devices_from router_from stands_at is_router device_row
  first_from q [] = refl
  first_from q (d ∷ ds) = rw (add-one q) (ap (λ o. cond (stands_at domain route d) (Some q) o) (first_from (suc q) ds))

  pub first : (ds : List DeviceFacts) → position (stands_at domain route) ds ≡ router_from 0 (devices_from 0 ds) domain route
  first ds = position_from-zero (stands_at domain route) ds ∙ first_from 0 ds
