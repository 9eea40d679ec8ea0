-- Laws for the layers above: a description that names a register, and the words at its place, say the same. Assumes nothing.
use Prim.Native.Nat.{ℕ}
use mathlib.Core.Path.{◌≡◌, refl, sym, ap, ◌∙◌, subst}
use mathlib.Core.List.{List, [], ◌∷◌, map}
use mathlib.Core.Bool.{Bool, true, false, cond}
use Rattle.std.specs.Prelude.{Option, None, Some}
use native.Mathlib.Omega.{arith}
use lib.Dec.{eqb}
use borrow.Author.Tests.{eq-eqb, eqb-true}
use Rattle.layout.specs.Layout.{heads, keep, is_register, registers}
use Rattle.layout.specs.Description.{Description, described, fields_behind, descriptions_of}
use Rattle.naming.specs.Naming.{fits, only, naming, router_naming, place_of}
use Rattle.fields.specs.Names.{alike, name_is}
use Rattle.metadata.specs.Calls.{at}
use Rattle.naming.specs.declared.Sought.{Sought}

-- a description of the words t: it is what stands at its place, a register group has its head there, and it is the one found there
pub record From (t : List ℕ) (ds : List Description) (d : Description) : Type 0 where
  pub is : d ≡ described t d.place
  pub register : is_register t d.place ≡ true
  pub found : at d.place ds ≡ Some d

-- a description that is kept of the registers among some places is one of the words
module _ (t : List ℕ) (f : Description → Bool) (d : Description) (ds : List Description) where
  among : List ℕ → List Description
  among r = map (described t) (keep (is_register t) r)

  first_kept : (r : List ℕ) → keep f (among r) ≡ d ∷ ds → From t (among r) d
  unfolding keep described at among
  first_kept [] e = let z : ◌≡◌ {A = ℕ} 0 1 = cc in absurd (omega arith)
  first_kept (p ∷ r) e = go (is_register t p) refl e (first_kept r)
    where
      rest : List Description
      rest = map (described t) (keep (is_register t) r)

      Later : Type 0
      Later = keep f rest ≡ d ∷ ds → From t rest d

      here : is_register t p ≡ true → described t p ≡ d → From t (described t p ∷ rest) d
      here k q = subst (λ z. From t (described t p ∷ rest) z) q (record { is = refl; register = k; found = simp (eq-eqb p p refl) })

      later : (b : Bool) → eqb p d.place ≡ b → From t rest d → cond b (Some (described t p)) (at d.place rest) ≡ Some d
      later true k h = ap Some (ap (described t) (eqb-true _ _ k) ∙ sym h.is)
      later false k h = h.found

      behind : From t rest d → From t (described t p ∷ rest) d
      behind h = record { is = h.is; register = h.register; found = later (eqb p d.place) refl h }

      step : (b : Bool) → is_register t p ≡ true → cond b (described t p ∷ keep f rest) (keep f rest) ≡ d ∷ ds → Later → From t (described t p ∷ rest) d
      step true k q ih = let h : described t p ≡ d = cc in here k h
      step false k q ih = behind (ih q)

      go : (b : Bool) → is_register t p ≡ b → keep f (map (described t) (cond b (p ∷ keep (is_register t) r) (keep (is_register t) r))) ≡ d ∷ ds
          → Later → From t (map (described t) (cond b (p ∷ keep (is_register t) r) (keep (is_register t) r))) d
      go true k q ih = step (f (described t p)) k q ih
      go false k q ih = ih q

only_some : (xs : List Description) (d : Description) → only xs ≡ Some d → xs ≡ d ∷ []
unfolding only
only_some [] d e = let z : ◌≡◌ {A = ℕ} 0 1 = cc in absurd (omega arith)
only_some (x ∷ []) d e = let h : x ≡ d = cc in ap (λ z. z ∷ []) h
only_some (x ∷ (y ∷ xs)) d e = let z : ◌≡◌ {A = ℕ} 0 1 = cc in absurd (omega arith)

-- what names a register is a description of the words
pub named_from : (t : List ℕ) (q : Sought) (d : Description) → naming q (descriptions_of t) ≡ Some d → From t (descriptions_of t) d
unfolding naming descriptions_of registers among
named_from t q d e = first_kept t (fits q) d [] (heads t) (only_some _ d e)

pub router_from_lem : (t : List ℕ) (offset cap vs : ℕ) (d : Description) → router_naming offset cap vs (descriptions_of t) ≡ Some d → From t (descriptions_of t) d
unfolding router_naming
router_from_lem t offset cap vs d e = named_from t _ d e

-- its fields and its name are those that find_field and name_is look at
module _ (t : List ℕ) (ds : List Description) (d : Description) (h : From t ds d) where
  pub its_fields : fields_behind t d.place ≡ d.fields
  unfolding described
  its_fields = ap (λ z. z.fields) (sym h.is)

  pub its_name : (name : List ℕ) → name_is t d.place name ≡ alike d.name name
  unfolding name_is
  its_name name = rw (h.register, ← h.is) refl

-- what find_group answers, as a description
module _ (f : Option ℕ) (n : Option Description) (e : f ≡ place_of n) where
  pub found_at : (p : ℕ) → f ≡ Some p → (d : Description) × (n ≡ Some d) × (d.place ≡ p)
  unfolding place_of
  found_at p k = go n refl
    where
      go : (o : Option Description) → n ≡ o → (d : Description) × (n ≡ Some d) × (d.place ≡ p)
      go None m = let z : ◌≡◌ {A = Option ℕ} (Some p) None = (sym k) ∙ e ∙ ap place_of m in let y : ◌≡◌ {A = ℕ} 0 1 = cc in absurd (omega arith)
      go (Some d) m = let z : ◌≡◌ {A = Option ℕ} (Some p) (Some d.place) = (sym k) ∙ e ∙ ap place_of m in let y : p ≡ d.place = cc in (d, m, sym y)

  pub found_none : f ≡ None → n ≡ None
  unfolding place_of
  found_none k = go n refl
    where
      go : (o : Option Description) → n ≡ o → n ≡ None
      go None m = m
      go (Some d) m = let z : ◌≡◌ {A = Option ℕ} None (Some d.place) = (sym k) ∙ e ∙ ap place_of m in let y : ◌≡◌ {A = ℕ} 0 1 = cc in absurd (omega arith)
