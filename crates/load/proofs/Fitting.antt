-- Laws on whether a device's adapters fit it, by its ROUTER_CS_1. Assumes nothing.
use Prim.Native.Nat.{ℕ, ◌+◌, ◌/◌, ◌%◌}
use native.Mathlib.Omega.{arith}
use mathlib.Core.Path.{◌≡◌, sym, ap, ◌∙◌}
use mathlib.Core.Bool.{Bool, true, false, cond, ◌&&◌}
use mathlib.Core.List.{List, [], ◌∷◌}
use Rattle.std.specs.Prelude.{Option, None, Some, Err, Ok, Result}
use lib.Dec.{eqb}
use lib.ListN.{length}
use borrow.Author.Tests.{eq-eqb, ne_eqb}
use Rattle.refusal.specs.Outcome.{Outcome, refused, value, bind}
use Rattle.refusal.specs.Refusal.{at, refusal_of, fault_outcome, field_at}
use Rattle.refusal.specs.declared.Fault.TheVariants.{NoField, BadAdapters}
use Rattle.util.specs.Text.{bytes_of}
use Rattle.layout.specs.Layout.{word}
use Rattle.layout.specs.Description.{described, descriptions_of}
use Rattle.fields.specs.Names.{find_field}
use Rattle.metadata.specs.Calls.{value_in}
use Rattle.register.specs.Line.{register_of}
use Rattle.survey.specs.Devices.{Adapter, register_in}
use Rattle.listing.specs.After.{after, register_at, device_at}
use Rattle.numbering.specs.Numbered.{numbered}
use Rattle.named.specs.Named.{Named, router_space, by_name, sited, wanted_field, named_at, Within, named_in}
use Rattle.refusal.specs.Refusal.{field_read}
use Rattle.named.specs.declared.NamedAt.{NamedAt}
use Rattle.named.proofs.Laws.{wanted_field_lem}
use Rattle.adapter.specs.Adapter.{adapter_site}
use Rattle.load.specs.Loading.{itself, router_cs1, upstream_in, fitting}
use Rattle.load.specs.Work.{fits_by}
use Rattle.refusal.specs.declared.FieldError.{FieldError}
use Rattle.refusal.specs.declared.FieldError.TheVariants as field

-- ROUTER_CS_1 of the device whose head w stands at i
module _ (d t : List ℕ) (i w : ℕ) (ew : w ≡ word t i) where
  abbrev cs1 : Option Named
  cs1 = by_name (descriptions_of d) router_space 0 (bytes_of "ROUTER_CS_1") (after t (i + 4)).registers

  by_word : router_cs1 (descriptions_of d) (device_at t i) ≡ cond (eqb (w / 16777216 % 16) 1 && eqb (w / 2 % 2) 1) cs1 None
  unfolding router_cs1 device_at
  by_word = ap (λ z. cond (eqb (z / 16777216 % 16) 1 && eqb (z / 2 % 2) 1) cs1 None) (sym ew)

  pub other_kind : (w / 16777216 % 16 ≡ 1 → ⊥) → (named_at d t None ≡ router_cs1 (descriptions_of d) (device_at t i)) × Within (length t) None
  unfolding named_at Within
  other_kind e = (sym (by_word ∙ ap (λ b. cond (b && eqb (w / 2 % 2) 1) cs1 None) (ne_eqb _ _ e)), omega arith)

  module _ (e : w / 16777216 % 16 ≡ 1) where
    by_read : router_cs1 (descriptions_of d) (device_at t i) ≡ cond (eqb (w / 2 % 2) 1) cs1 None
    by_read = by_word ∙ ap (λ b. cond (b && eqb (w / 2 % 2) 1) cs1 None) (eq-eqb _ _ e)

    pub router_unread : (w / 2 % 2 ≡ 1 → ⊥) → (named_at d t None ≡ router_cs1 (descriptions_of d) (device_at t i)) × Within (length t) None
    unfolding named_at Within
    router_unread r = (sym (by_read ∙ ap (λ b. cond b cs1 None) (ne_eqb _ _ r)), omega arith)

    pub router_read : w / 2 % 2 ≡ 1 → (o : Option Named) → o ≡ cs1 → o ≡ router_cs1 (descriptions_of d) (device_at t i)
    router_read r o z = z ∙ sym (by_read ∙ ap (λ b. cond b cs1 None) (eq-eqb _ _ r))

-- by ROUTER_CS_1 at places of the survey t and of the descriptions d, or by its absence
module _ (d t : List ℕ) (f : Option NamedAt) where
  pub upstream_none : f ≡ None → (p : ℕ) → field_at (adapter_site p 0) (Ok None) ≡ upstream_in p (named_at d t f)
  unfolding upstream_in named_at
  upstream_none k p = ap (λ z. upstream_in p (named_at d t z)) (sym k)

  pub fits_none : f ≡ None → (p : ℕ) (l : List Adapter) → fault_outcome (Err (BadAdapters p)) ≡ fitting p l (named_at d t f)
  unfolding fitting named_at
  fits_none k p l = ap (λ z. fitting p l (named_at d t z)) (sym k)

  module _ (i g : ℕ) (k : f ≡ named_in i g) (w : ℕ) (ew : w ≡ word t (i + 3)) (p : ℕ) where
    abbrev its : Named
    its = record { register = register_at t i; description = described d g }

    module _ (r : Result ℕ FieldError) (name : List ℕ) (h : field_read r ≡ value_in w (find_field name (described d g).fields)) where
      its_field : sited (itself p) (field_read r) ≡ wanted_field (itself p) its name
      unfolding register_at register_in register_of
      its_field = wanted_field_lem (itself p) d t i g r name (h ∙ ap (λ x. value_in x (find_field name (described d g).fields)) ew)

      its_value : (x : ℕ) → r ≡ Ok x → value x ≡ wanted_field (itself p) its name
      unfolding sited
      its_value x m = ap (λ z. sited (itself p) (field_read z)) (sym m) ∙ its_field

      its_lack : r ≡ (Err field.NoField) → refused 6 (at (itself p)) ≡ wanted_field (itself p) its name
      unfolding sited
      its_lack m = ap (λ z. sited (itself p) (field_read z)) (sym m) ∙ its_field

    module _ (r : Result ℕ FieldError) (h : field_read r ≡ value_in w (find_field (bytes_of "Upstream Adapter") (described d g).fields)) where
      -- upstream_of
      abbrev up_to : Outcome ℕ → Outcome (Option ℕ)
      up_to o = bind o (λ v. value (Some (v % 256)))

      pub upstream_lacks : r ≡ (Err field.NoField) → field_at (adapter_site p 0) (Err field.NoField) ≡ upstream_in p (named_at d t f)
      unfolding refusal_of upstream_in named_at bind itself
      upstream_lacks m = ap (λ o. up_to o) (its_lack r _ h m) ∙ ap (λ z. upstream_in p (named_at d t z)) (sym k)

      pub upstream_has : (x : ℕ) → r ≡ Ok x → field_at (adapter_site p 0) (Ok (Some (x % 256))) ≡ upstream_in p (named_at d t f)
      unfolding upstream_in named_at bind itself
      upstream_has x m = ap (λ o. up_to o) (its_value r _ h x m) ∙ ap (λ z. upstream_in p (named_at d t z)) (sym k)

    -- fits_router: Max Adapter, then Upstream Adapter, then the numbers
    module _ (l : List Adapter) (r : Result ℕ FieldError) (h : field_read r ≡ value_in w (find_field (bytes_of "Max Adapter") (described d g).fields)) where
      abbrev by_numbers : ℕ → Outcome Unit
      by_numbers x = cond (numbered 1 (x % 256) l) (value tt) (refusal_of (BadAdapters p))

      abbrev by_fields : Outcome ℕ → Outcome ℕ → Outcome Unit
      by_fields a b = bind a (λ most. bind b (λ up. by_numbers most))

      pub most_lacks : r ≡ (Err field.NoField) → fault_outcome (Err (NoField (record { place = p; adapter = 0 }))) ≡ fitting p l (named_at d t f)
      unfolding refusal_of fitting named_at bind itself adapter_site
      most_lacks m = ap (λ o. by_fields o (wanted_field (itself p) its (bytes_of "Upstream Adapter"))) (its_lack r _ h m) ∙ ap (λ z. fitting p l (named_at d t z)) (sym k)

      module _ (x : ℕ) (m : r ≡ Ok x) (q : Result ℕ FieldError) (hq : field_read q ≡ value_in w (find_field (bytes_of "Upstream Adapter") (described d g).fields)) where
        to_fitting : by_fields (value x) (wanted_field (itself p) its (bytes_of "Upstream Adapter")) ≡ fitting p l (named_at d t f)
        unfolding fitting named_at
        to_fitting = ap (λ o. by_fields o (wanted_field (itself p) its (bytes_of "Upstream Adapter"))) (its_value r _ h x m) ∙ ap (λ z. fitting p l (named_at d t z)) (sym k)

        pub up_lacks : q ≡ (Err field.NoField) → fault_outcome (Err (NoField (record { place = p; adapter = 0 }))) ≡ fitting p l (named_at d t f)
        unfolding refusal_of bind itself adapter_site
        up_lacks n = ap (λ o. by_fields (value x) o) (its_lack q _ hq n) ∙ to_fitting

        module _ (y : ℕ) (n : q ≡ Ok y) (b : Bool) (e : b ≡ numbered 1 (x % 256) l) where
          to_numbers : cond b (value tt) (refusal_of (BadAdapters p)) ≡ fitting p l (named_at d t f)
          unfolding bind
          to_numbers = ap (λ z. cond z (value tt) (refusal_of (BadAdapters p))) e ∙ ap (λ o. by_fields (value x) o) (its_value q _ hq y n) ∙ to_fitting

          pub numbers_wrong : b ≡ false → fault_outcome (Err (BadAdapters p)) ≡ fitting p l (named_at d t f)
          numbers_wrong z = ap (λ c. cond c (value tt) (refusal_of (BadAdapters p))) (sym z) ∙ to_numbers

          pub numbers_right : b ≡ true → fault_outcome (Ok tt) ≡ fitting p l (named_at d t f)
          numbers_right z = ap (λ c. cond c (value tt) (refusal_of (BadAdapters p))) (sym z) ∙ to_numbers

-- a device without adapters fits them; one with adapters by its ROUTER_CS_1
module _ (p : ℕ) (l : List Adapter) (n : Option Named) where
  pub fits_empty : l ≡ [] → fault_outcome (Ok tt) ≡ fits_by p l n
  unfolding fits_by
  fits_empty e = ap (λ z. fits_by p z n) (sym e)

  pub fits_some : (a : Adapter) (rest : List Adapter) → l ≡ a ∷ rest → fitting p l n ≡ fits_by p l n
  unfolding fits_by
  fits_some a rest e = ap (λ z. fitting p z n) e ∙ ap (λ z. fits_by p z n) (sym e)
