-- Laws of the calls: what a check leaves to be said. Assumes nothing.
use Rattle.std.specs.Prelude.{IsErrAnd, Err, Ok, Option, Result, None, Some}
use Prim.Native.Nat.{ℕ, ◌+◌, ◌-◌, ◌/◌, ◌%◌}
use mathlib.Core.Path.{◌≡◌, refl, sym, ap, ◌∙◌}
use mathlib.Core.List.{List, []}
use mathlib.Core.Bool.{Bool, true, false}
use native.Mathlib.Omega.{arith}
use lib.ListN.{take, drop}
use Rattle.refusal.specs.Outcome.{value, bind}
use Rattle.util.specs.Bits.{bits_of}
use Rattle.layout.specs.Layout.{word}
use Rattle.layout.specs.Description.{Description, described, fields_behind, descriptions_of}
use Rattle.description.specs.Rules.{check_of, read_descriptions}
use Rattle.naming.specs.Naming.{naming, place_of}
use Rattle.metadata.specs.Calls.{describe_answer, at, name_words_of, unless_refused, name_answer, value_in, field_in, field_answer}
use Rattle.metadata.specs.Work.{standing}
use Rattle.fields.specs.Names.{find_field}
use Rattle.fields.specs.declared.BitField.{BitField}
use Rattle.naming.specs.declared.Sought.{Sought}
use Rattle.fields.proofs.Names.{name_long}
use Rattle.refusal.specs.Refusal.{outcome}
use Rattle.refusal.proofs.Laws.{ended, gone_on, numbered}
use Rattle.refusal.specs.declared.Refusal.{Refusal}
use Rattle.refusal.specs.declared.Refusal.TheVariants as refusal

module _ (t : List ℕ) (r : Result Unit Refusal) (e : outcome r ≡ check_of t) where
  pub check_well : r ≡ Ok tt → check_of t ≡ value tt
  check_well q = sym e ∙ ap outcome q

  read_refused : (p : Refusal) → r ≡ Err p → outcome (Err p) ≡ read_descriptions t
  unfolding read_descriptions
  read_refused p k = ended r (check_of t) e _ p k

  read_well : r ≡ Ok tt → read_descriptions t ≡ value (descriptions_of t)
  unfolding read_descriptions
  read_well k = gone_on r (check_of t) e _ tt k

  module _ (q : Sought) where
    describe_refused : (p : Refusal) → r ≡ Err p → outcome (Err p) ≡ describe_answer t q
    unfolding describe_answer
    describe_refused p k = ended (Err p) (read_descriptions t) (read_refused p k) _ p refl

    pub describe_well : r ≡ Ok tt → (f : Option ℕ) → f ≡ place_of (naming q (descriptions_of t)) → outcome (Ok f) ≡ describe_answer t q
    unfolding describe_answer bind
    describe_well k f l = rw (read_well k, ← l) refl

    pub describe_err : (m : Result (Option ℕ) Refusal) (x : Refusal) → r ≡ Err x → IsErrAnd m (λ y. y ≡ x) → outcome m ≡ describe_answer t q
    describe_err (Ok o) x k w = absurd w
    describe_err (Err y) x k w = ap (λ z. outcome (Err z)) w ∙ describe_refused x k

  module _ (p : ℕ) where
    pub name_refused : (x : Refusal) → r ≡ Err x → name_answer t p ≡ []
    unfolding name_answer unless_refused
    name_refused x k = ap (unless_refused t p) (sym (read_refused x k)) ∙ ap (unless_refused t p) (numbered (List Description) x).2

    pub name_well : r ≡ Ok tt → name_answer t p ≡ name_words_of t (at p (descriptions_of t))
    unfolding name_answer unless_refused
    name_well k = rw (read_well k) refl

  module _ (p v : ℕ) (name : List ℕ) where
    pub field_refused : (x : Refusal) → r ≡ Err x → outcome (Err x) ≡ field_answer t p v name
    unfolding field_answer
    field_refused x k = ended (Err x) (read_descriptions t) (read_refused x k) _ x refl

    pub field_err : (m : Result ℕ Refusal) (x : Refusal) → r ≡ Err x → IsErrAnd m (λ y. y ≡ x) → outcome m ≡ field_answer t p v name
    field_err (Ok o) x k w = absurd w
    field_err (Err y) x k w = ap (λ z. outcome (Err z)) w ∙ field_refused x k

    pub field_well : r ≡ Ok tt → (f : Result ℕ Refusal) → outcome f ≡ field_in v name (at p (descriptions_of t)) → outcome f ≡ field_answer t p v name
    unfolding field_answer bind
    field_well k f l = rw (read_well k) l

-- what stands at a place
module _ (t : List ℕ) (p : ℕ) (b : Bool) (e : at p (descriptions_of t) ≡ standing b t p) where
  at_none : b ≡ false → at p (descriptions_of t) ≡ None
  unfolding standing
  at_none k = e ∙ ap (λ z. standing z t p) k

  pub at_some : b ≡ true → at p (descriptions_of t) ≡ Some (described t p)
  unfolding standing
  at_some k = e ∙ ap (λ z. standing z t p) k

  pub words_none : b ≡ false → name_words_of t (at p (descriptions_of t)) ≡ []
  unfolding name_words_of
  words_none k = rw (at_none k) refl

  pub words_some : b ≡ true → (w : ℕ) → w ≡ word t p → (n : ℕ) → n ≡ (w / 65536 % 256 + 3) / 4 → name_words_of t (at p (descriptions_of t)) ≡ take n (drop (p + 3) t)
  unfolding name_words_of described
  words_some k w z n m = rw (at_some k, ← z, name_long t (p + 3) (w / 65536 % 256), ← m) refl

  module _ (v : ℕ) (name : List ℕ) where
    pub field_absent : b ≡ false → outcome (Err refusal.NoField) ≡ field_in v name (at p (descriptions_of t))
    unfolding field_in
    field_absent k = rw (at_none k) refl

    module _ (k : b ≡ true) (f : Option BitField) (l : f ≡ find_field name (fields_behind t p)) where
      value_of : field_in v name (at p (descriptions_of t)) ≡ value_in v f
      unfolding field_in described
      value_of = rw (at_some k, l) refl

      pub field_lacks : f ≡ None → outcome (Err refusal.NoField) ≡ field_in v name (at p (descriptions_of t))
      unfolding value_in
      field_lacks m = sym (value_of ∙ ap (λ z. value_in v z) m)

      pub field_has : (d : BitField) (x : ℕ) → f ≡ Some d → x ≡ bits_of v d.start d.end → outcome (Ok x) ≡ field_in v name (at p (descriptions_of t))
      unfolding value_in
      field_has d x m y = sym (value_of ∙ ap (λ z. value_in v z) m ∙ ap (λ z. value z) (sym y))

-- a part from p + 3 of n words
pub part_is : (t : List ℕ) (p n : ℕ) (l : List ℕ) → l ≡ take n (drop (p + 3) t) → take (p + 3 + n - (p + 3)) (drop (p + 3) t) ≡ l
part_is t p n l e = ap (λ z. take z (drop (p + 3) t)) (let k : p + 3 + n - (p + 3) ≡ n = omega arith in k) ∙ sym e
