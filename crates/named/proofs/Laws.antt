-- Laws of named registers: what name_group answers, the turns of by_name's loop, and fields and flags as the layers above want them. Assumes nothing.
use Prim.Native.Nat.{ℕ, ◌+◌, ◌-◌, ◌≤◌, ◌<◌, min}
use Rattle.std.proofs.Math.Nat.{min-eq_left, min-eq_right}
use mathlib.Core.Path.{◌≡◌, refl, sym, ap, ◌∙◌}
use mathlib.Core.List.{List, ◌∷◌}
use mathlib.Core.Bool.{Bool, true, false, cond, not}
use Rattle.std.specs.Prelude.{Option, None, Some, Err, Ok, Result}
use native.Mathlib.Omega.{arith}
use native.Mathlib.Decide.{dec_lt, dec_le}
use lib.Dec.{eqb}
use lib.ListN.{length, get_or-eq_default}
use Rattle.refusal.specs.Outcome.{value, bind}
use Rattle.refusal.specs.declared.Site.{Site}
use Rattle.util.specs.Bits.{bits_of}
use Rattle.layout.specs.Layout.{word, bits, low}
use Rattle.layout.specs.Description.{described, fields_behind, descriptions_of}
use Rattle.naming.specs.Naming.{naming, place_of}
use Rattle.naming.specs.declared.Sought.{Sought}
use Rattle.fields.specs.declared.BitField.{BitField}
use Rattle.fields.specs.Names.{alike, name_is, find_field, find_flag}
use Rattle.metadata.specs.Calls.{value_in, is_set, flag_in}
use Rattle.metadata.proofs.Named.{named_from, its_name, found_at, found_none}
use Rattle.register.specs.Line.{register_of}
use Rattle.register.specs.declared.Register.{Register}
use Rattle.survey.specs.Devices.{register_in}
use Rattle.listing.specs.After.{after, listed, register_at, NextRegister}
use Rattle.listing.proofs.Laws.{after_end}
use Rattle.named.specs.Named.{Named, named, or_else, having_name, with_register, by_name, sited, wanted_field, named_at, named_in, Within, found_named}
use Rattle.refusal.specs.Refusal.{field_read}
use Rattle.refusal.specs.declared.FieldError.{FieldError}
use Rattle.refusal.specs.declared.FieldError.TheVariants as field

-- what name_group answers, by what find_group and name_is say
module _ (t name : List ℕ) (q : Sought) (f : Option ℕ) (e : f ≡ place_of (naming q (descriptions_of t))) where
  pub group_none : f ≡ None → found_named t None ≡ having_name name (naming q (descriptions_of t))
  unfolding found_named having_name
  group_none k = sym (ap (λ o. having_name name o) (found_none f _ e k))

  module _ (p : ℕ) (k : f ≡ Some p) (b : Bool) (l : b ≡ name_is t p name) where
    by_test : having_name name (naming q (descriptions_of t)) ≡ cond b (Some (described t p)) None
    unfolding having_name
    by_test =
        let g = found_at f (naming q (descriptions_of t)) e p k in
        let h = named_from t q g.0 g.1 in
        let a : alike g.0.name name ≡ b = sym (its_name t _ g.0 h name) ∙ ap (λ z. name_is t z name) g.2 ∙ sym l in
        let d : g.0 ≡ described t p = h.is ∙ ap (λ z. described t z) g.2 in
        ap (λ o. having_name name o) g.1 ∙ ap (λ z. cond z (Some g.0) None) a ∙ ap (λ z. cond b (Some z) None) d

    pub group_other : b ≡ false → found_named t None ≡ having_name name (naming q (descriptions_of t))
    unfolding found_named
    group_other z = sym (by_test ∙ ap (λ x. cond x (Some (described t p)) None) z)

    pub group_at_lem : b ≡ true → found_named t (Some p) ≡ having_name name (naming q (descriptions_of t))
    unfolding found_named
    group_at_lem z = sym (by_test ∙ ap (λ x. cond x (Some (described t p)) None) z)

-- the loop of by_name, over the words d of descriptions and t of a survey: the registers from i on answer for those from `from` on
module _ (d : List ℕ) (space k : ℕ) (name t : List ℕ) where
  abbrev answer : List Register → Option Named
  answer rs = by_name (descriptions_of d) space k name rs

  -- a register by the two words of its ids
  abbrev sought : ℕ → ℕ → Sought
  sought ids vs = record { space = space; kind = k; offset = bits ids 16 31; cap = low ids 15; vs = vs }

  pub record Seeking (from i : ℕ) : Type 0 where
    pub room : i < length t → i + 4 ≤ length t
    pub here : i < length t → (after t i).registers ≡ register_at t i ∷ (after t (i + 4)).registers
    pub so_far : answer (after t from).registers ≡ answer (after t i).registers

  seek : (from i r : ℕ) → answer (after t from).registers ≡ answer (after t i).registers → NextRegister t false i r → Seeking from r
  unfolding listed
  seek from i r e n = record { room = λ l. (n.room l).1; here = n.here; so_far = e ∙ ap (λ rs. answer rs) n.same }

  pub seek_first : (from r : ℕ) → NextRegister t false from r → Seeking from r
  seek_first from r n = seek from from r refl n

  module _ (from i : ℕ) (h : Seeking from i) where
    pub seek_none : length t ≤ i → (named_at d t None ≡ answer (after t from).registers) × Within (length t) None
    unfolding named_at by_name Within
    seek_none l = (sym (h.so_far ∙ ap (λ rs. answer rs) (ap (λ z. z.registers) (after_end t i l))), omega arith)

    module _ (l : i < length t) (ids vs : ℕ) (ei : ids ≡ word t (i + 1)) (ev : vs ≡ word t (i + 2)) (f : Option ℕ)
        (e : found_named d f ≡ having_name name (naming (sought ids vs) (descriptions_of d))) where
      turn : answer (after t from).registers ≡ or_else (with_register (register_at t i) (found_named d f)) (answer (after t (i + 4)).registers)
      unfolding by_name named register_at register_in register_of
      turn =
          h.so_far ∙ ap (λ rs. answer rs) (h.here l)
          ∙ ap (λ o. or_else (with_register (register_at t i) o) (answer (after t (i + 4)).registers)) (sym (e ∙ ap (λ z. having_name name (naming (sought z vs) (descriptions_of d))) ei ∙ ap (λ z. having_name name (naming (sought (word t (i + 1)) z) (descriptions_of d))) ev))

      pub seek_at : (g : ℕ) → f ≡ Some g → (named_at d t (named_in i g) ≡ answer (after t from).registers) × Within (length t) (named_in i g)
      unfolding named_at found_named or_else with_register Within
      seek_at g z = (sym (turn ∙ ap (λ x. or_else (with_register (register_at t i) (found_named d x)) (answer (after t (i + 4)).registers)) z), h.room l)

      pub seek_on : f ≡ None → (r : ℕ) → NextRegister t false (i + 4) r → Seeking from r
      unfolding found_named or_else with_register
      seek_on z r n = seek from (i + 4) r (turn ∙ ap (λ x. or_else (with_register (register_at t i) (found_named d x)) (answer (after t (i + 4)).registers)) z) n

-- the next register, of either space, stands further on
pub seek_less : (t : List ℕ) (path : Bool) (i r : ℕ) → i < length t → NextRegister t path (i + 4) r → length t - r < length t - i
seek_less t path i r l n = go (dec_lt r (length t))
  where
    go : Dec (r < length t) → length t - r < length t - i
    go (yes h) = omega (arith, n.room h)
    go (no h) = omega arith

-- what field_value answers
module _ (t : List ℕ) (g v : ℕ) (name : List ℕ) (f : Option BitField) (e : f ≡ find_field name (fields_behind t g)) where
  field_of : value_in v f ≡ value_in v (find_field name (described t g).fields)
  unfolding described
  field_of = ap (λ z. value_in v z) e

  pub field_missing : f ≡ None → field_read (Err field.NoField) ≡ value_in v (find_field name (described t g).fields)
  unfolding value_in
  field_missing k = ap (λ z. value_in v z) (sym k) ∙ field_of

  pub field_is_lem : (d : BitField) (x : ℕ) → f ≡ Some d → x ≡ bits_of v d.start d.end → field_read (Ok x) ≡ value_in v (find_field name (described t g).fields)
  unfolding value_in
  field_is_lem d x k y = ap (λ z. value z) y ∙ ap (λ z. value_in v z) (sym k) ∙ field_of

-- what flag_value answers
module _ (t : List ℕ) (g v : ℕ) (name : List ℕ) (f : Option BitField) (e : f ≡ find_flag name (fields_behind t g)) where
  flag_of : is_set (value_in v f) ≡ flag_in v name (Some (described t g))
  unfolding described flag_in
  flag_of = ap (λ z. is_set (value_in v z)) e

  pub flag_missing : f ≡ None → field_read (Err field.NoField) ≡ flag_in v name (Some (described t g))
  unfolding value_in is_set bind
  flag_missing k = ap (λ z. is_set (value_in v z)) (sym k) ∙ flag_of

  pub flag_is : (d : BitField) (x : ℕ) → f ≡ Some d → x ≡ bits_of v d.start d.end → field_read (Ok (not (eqb x 0))) ≡ flag_in v name (Some (described t g))
  unfolding value_in is_set bind
  flag_is d x k y = ap (λ z. value (not (eqb z 0))) y ∙ ap (λ z. is_set (value_in v z)) (sym k) ∙ flag_of

-- what is read of a named register is what is wanted of it
pub wanted_field_lem : (s : Site) (t v : List ℕ) (i g : ℕ) (r : Result ℕ FieldError) (name : List ℕ) → field_read r ≡ value_in (register_at v i).value (find_field name (described t g).fields)
    → sited s (field_read r) ≡ wanted_field s (record { register = register_at v i; description = described t g }) name
unfolding wanted_field
wanted_field_lem s t v i g r name e = ap (λ z. sited s z) e

-- a register's value, by a place that stops at the end of all places
pub value_is : (t : List ℕ) (i j : ℕ) → length t ≤ 18446744073709551615 → j ≡ min (i + 3) 18446744073709551615 → (w : ℕ) → w ≡ word t j → w ≡ (register_at t i).value
unfolding register_at register_in register_of
value_is t i j l e w q = q ∙ go (dec_le (i + 3) 18446744073709551615)
  where
    go : Dec (i + 3 ≤ 18446744073709551615) → word t j ≡ word t (i + 3)
    go (yes h) = ap (word t) (e ∙ min-eq_left h)
    go (no h) = get_or-eq_default t 0 {n = j} (omega (arith, e ∙ min-eq_right (omega arith))) ∙ sym (get_or-eq_default t 0 {n = i + 3} (omega arith))
