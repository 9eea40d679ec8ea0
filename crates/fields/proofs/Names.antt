-- Laws of names and fields. Assumes nothing.
use Rattle.std.specs.Prelude.{Option, None, Some}
use Prim.Native.Nat.{ℕ, zero, suc, ◌+◌, ◌-◌, ◌/◌, ◌%◌, ◌≤◌, ◌<◌}
use mathlib.Core.Path.{◌≡◌, refl, sym, ap, ◌∙◌}
use mathlib.Core.List.{List, [], ◌∷◌}
use mathlib.Core.Bool.{Bool, true, false, ◌&&◌, ◌||◌}
use native.Mathlib.Omega.{arith}
use native.Mathlib.Numerals.{add-one}
use native.Mathlib.Nat.{sub-zero}
use lib.Dec.{eqb}
use lib.ListN.{length, get_or, drop, drop_of_length-le, get_or-eq_default}
use lib.Seq.{drop-cons}
use borrow.Author.Tests.{lt-ltb, le-ltb, eq-eqb, ne_eqb}
use Rattle.layout.specs.Layout.{word, byte_at, bytes_from, name_bytes, size_of, is_register}
use Rattle.layout.specs.Description.{Field, described, field_of, fields_of, fields_behind}
use Rattle.layout.proofs.Laws.{one_less, Rest, rest_next, rest_end}
use Rattle.fields.specs.Names.{lower, alike, name_is, field_is, find_field, one_bit, find_flag, bit_field}
use Rattle.fields.specs.declared.BitField.{BitField}

bytes_long : (t : List ℕ) (p j k : ℕ) → length (bytes_from t p j k) ≡ k
unfolding bytes_from
bytes_long t p j zero = refl
bytes_long t p j (suc k) = ap suc (bytes_long t p (j + 1) k)

pub name_long : (t : List ℕ) (p n : ℕ) → length (name_bytes t p n) ≡ n
unfolding name_bytes
name_long t p n = bytes_long t p 0 n

alike_long : (a b : List ℕ) → (length a ≡ length b → ⊥) → alike a b ≡ false
unfolding alike
alike_long [] [] n = absurd (n refl)
alike_long [] (y ∷ ys) n = refl
alike_long (x ∷ xs) [] n = refl
alike_long (x ∷ xs) (y ∷ ys) n = go (eqb (lower x) (lower y)) (alike_long xs ys (λ e. n (ap suc e)))
  where
    go : (b : Bool) → alike xs ys ≡ false → (b && alike xs ys) ≡ false
    go true e = e
    go false e = refl

pub other_length : (t : List ℕ) (p n : ℕ) (name : List ℕ) → (length name ≡ n → ⊥) → alike (name_bytes t p n) name ≡ false
other_length t p n name h = alike_long _ _ (λ e. h (sym e ∙ name_long t p n))

-- the loop of same_name: what is left from byte j on
abbrev pub Left : List ℕ → ℕ → ℕ → List ℕ → ℕ → Type 0
Left t p n name j = alike (name_bytes t p n) name ≡ alike (bytes_from t p j (n - j)) (drop j name)

module _ (t : List ℕ) (p n : ℕ) (name : List ℕ) (j : ℕ) where
  left_step : j < n → j < length name → alike (bytes_from t p j (n - j)) (drop j name)
      ≡ (eqb (lower (byte_at t p j)) (lower (get_or name j 0)) && alike (bytes_from t p (j + 1) (n - (j + 1))) (drop (j + 1) name))
  unfolding bytes_from alike
  left_step l m = rw (one_less j n l, drop-cons name j 0 m, add-one j) refl

  pub left_more : Left t p n name j → j < n → j < length name → lower (byte_at t p j) ≡ lower (get_or name j 0) → Left t p n name (j + 1)
  left_more h l m e = h ∙ left_step l m ∙ simp (eq-eqb _ _ e)

  pub left_other : Left t p n name j → j < n → j < length name → (lower (byte_at t p j) ≡ lower (get_or name j 0) → ⊥) → alike (name_bytes t p n) name ≡ false
  left_other h l m e = h ∙ left_step l m ∙ simp (ne_eqb _ _ e)

  pub left_none : Left t p n name j → n ≤ j → length name ≤ j → alike (name_bytes t p n) name ≡ true
  unfolding bytes_from alike
  left_none h l m = h ∙ rw (let q : n - j ≡ 0 = omega arith in q, drop_of_length-le name m) refl

pub left_all : (t : List ℕ) (p n : ℕ) (name : List ℕ) → Left t p n name 0
unfolding name_bytes
left_all t p n name = rw sub-zero refl

-- what name_is tests
module _ (t : List ℕ) (i : ℕ) (name : List ℕ) where
  pub past_end : length t ≤ i → name_is t i name ≡ false
  unfolding name_is is_register
  past_end l = rw (get_or-eq_default t 0 {n = i} l) refl

  module _ (w : ℕ) (e : w ≡ word t i) where
    pub other_kind : (w / 268435456 % 16 ≡ 1 → ⊥) → name_is t i name ≡ false
    unfolding name_is is_register
    other_kind n = rw (← e, ne_eqb (w / 268435456 % 16) 1 n) refl

    pub name_here : w / 268435456 % 16 ≡ 1 → name_is t i name ≡ alike (name_bytes t (i + 3) (w / 65536 % 256)) name
    unfolding name_is is_register described
    name_here k = rw (← e, eq-eqb (w / 268435456 % 16) 1 k) refl

-- what field_is tests
either : (x y : Bool) → x ≡ true → (x || y) ≡ true
either x y e = rw e refl

second : (x y : Bool) → x ≡ false → (x || y) ≡ y
second x y e = rw e refl

module _ (t : List ℕ) (name : List ℕ) (i w : ℕ) (e : w ≡ word t i) where
  named : alike (field_of t i).name name ≡ alike (name_bytes t (i + 1) (w / 256 % 256)) name
  unfolding field_of
  named = rw (← e) refl

  short : (field_of t i).short ≡ name_bytes t (i + 1 + (w / 256 % 256 + 3) / 4) (w % 256)
  unfolding field_of
  short = rw (← e) refl

  short_long : length (field_of t i).short ≡ w % 256
  short_long = ap length short ∙ name_long t _ (w % 256)

  pub field_by_name : alike (name_bytes t (i + 1) (w / 256 % 256)) name ≡ true → field_is name (field_of t i) ≡ true
  unfolding field_is
  field_by_name k = either _ _ (named ∙ k)

  module _ (k : alike (name_bytes t (i + 1) (w / 256 % 256)) name ≡ false) where
    pub field_no_short : w % 256 < 1 → field_is name (field_of t i) ≡ false
    unfolding field_is
    field_no_short l = second _ _ (named ∙ k) ∙ rw (le-ltb 0 (length (field_of t i).short) (omega (arith, short_long))) refl

    pub field_by_short : 1 ≤ w % 256 → (n : ℕ) → n ≡ (w / 256 % 256 + 3) / 4 → field_is name (field_of t i) ≡ alike (name_bytes t (i + 1 + n) (w % 256)) name
    unfolding field_is
    field_by_short l n z =
        second _ _ (named ∙ k) ∙ rw (lt-ltb 0 (length (field_of t i).short) (omega (arith, short_long))) (ap (λ x. alike x name) (short ∙ ap (λ m. name_bytes t (i + 1 + m) (w % 256)) (sym z)))

-- the loop of find_field: the field is the first of those to come
abbrev pub Fields : List ℕ → ℕ → List ℕ → ℕ → Type 0
Fields t place name i = (r : List ℕ) × Rest t i r × (find_field name (fields_behind t place) ≡ find_field name (fields_of t r))

pub fields_all : (t : List ℕ) (place : ℕ) (name : List ℕ) (s : ℕ) → s ≡ size_of (word t place) → Fields t place name (place + s)
unfolding fields_behind
fields_all t place name s e = rw e (_, record { most = length t; enough = omega arith; is = refl }, refl)

field_none : (t : List ℕ) (name : List ℕ) → find_field name (fields_of t []) ≡ None
unfolding find_field fields_of
field_none t name = refl

module _ (t : List ℕ) (name : List ℕ) (p : ℕ) (ps : List ℕ) (w : ℕ) (e : w ≡ word t p) where
  field_other : (w / 268435456 % 16 ≡ 2 → ⊥) → find_field name (fields_of t (p ∷ ps)) ≡ None
  unfolding find_field fields_of
  field_other n = rw (← e, ne_eqb (w / 268435456 % 16) 2 n) refl

  field_front : w / 268435456 % 16 ≡ 2 → fields_of t (p ∷ ps) ≡ field_of t p ∷ fields_of t ps
  unfolding fields_of
  field_front k = rw (← e, eq-eqb (w / 268435456 % 16) 2 k) refl

  field_bits : bit_field (field_of t p).start (field_of t p).end ≡ bit_field (w / 8388608 % 32) (w / 262144 % 32)
  unfolding field_of
  field_bits = rw (← e) refl

  field_here : w / 268435456 % 16 ≡ 2 → field_is name (field_of t p) ≡ true → find_field name (fields_of t (p ∷ ps)) ≡ bit_field (w / 8388608 % 32) (w / 262144 % 32)
  unfolding find_field
  field_here k h = ap (λ z. find_field name z) (field_front k) ∙ rw h field_bits

  field_later : w / 268435456 % 16 ≡ 2 → field_is name (field_of t p) ≡ false → find_field name (fields_of t (p ∷ ps)) ≡ find_field name (fields_of t ps)
  unfolding find_field
  field_later k h = ap (λ z. find_field name z) (field_front k) ∙ rw h refl

module _ (t : List ℕ) (place : ℕ) (name : List ℕ) (i : ℕ) (h : Fields t place name i) where
  field_to : (r : List ℕ) → h.0 ≡ r → find_field name (fields_behind t place) ≡ find_field name (fields_of t r)
  field_to r e = h.2 ∙ ap (λ (z : List ℕ). find_field name (fields_of t z)) e

  pub fields_end : length t ≤ i → None ≡ find_field name (fields_behind t place)
  fields_end l = sym (field_to _ (rest_end t i h.0 h.1 l) ∙ field_none t name)

  module _ (l : i < length t) (w : ℕ) (e : w ≡ word t i) where
    pub fields_other : (w / 268435456 % 16 ≡ 2 → ⊥) → None ≡ find_field name (fields_behind t place)
    fields_other k = let n = rest_next t i h.0 h.1 l in sym (field_to _ n.here ∙ field_other t name i _ w e k)

    pub fields_here : w / 268435456 % 16 ≡ 2 → field_is name (field_of t i) ≡ true → bit_field (w / 8388608 % 32) (w / 262144 % 32) ≡ find_field name (fields_behind t place)
    fields_here k y = let n = rest_next t i h.0 h.1 l in sym (field_to _ n.here ∙ field_here t name i _ w e k y)

    pub fields_more : w / 268435456 % 16 ≡ 2 → field_is name (field_of t i) ≡ false → (s : ℕ) → s ≡ size_of w → Fields t place name (i + s)
    fields_more k y s z =
        let n = rest_next t i h.0 h.1 l in
        rw (z ∙ ap size_of e) (n.left, n.then, field_to _ n.here ∙ field_later t name i _ w e k y)

-- a flag
module _ (name : List ℕ) (fs : List Field) (f : Option BitField) (l : f ≡ find_field name fs) where
  flag_of : find_flag name fs ≡ one_bit f
  unfolding find_flag
  flag_of = ap one_bit (sym l)

  pub flag_missing : f ≡ None → None ≡ find_flag name fs
  unfolding one_bit
  flag_missing m = sym (flag_of ∙ ap one_bit m)

  module _ (d : BitField) (m : f ≡ Some d) where
    pub flag_wide : (d.start ≡ d.end → ⊥) → None ≡ find_flag name fs
    unfolding one_bit
    flag_wide n = sym (flag_of ∙ ap one_bit m ∙ rw (ne_eqb d.start d.end n) refl)

    pub flag_bit : d.start ≡ d.end → Some d ≡ find_flag name fs
    unfolding one_bit
    flag_bit n = sym (flag_of ∙ ap one_bit m ∙ rw (eq-eqb d.start d.end n) refl)
