-- Laws on numbers: what is left to read after some digits, over any base and largest value. Assumes nothing.
use Rattle.std.specs.Prelude.{None, Option, Some}
use Prim.Native.Nat.{ℕ, zero, suc, ◌+◌, ◌-◌, ◌*◌, ◌/◌, ◌%◌, ◌^◌, ◌<◌, ◌≤◌}
use native.Mathlib.Omega.{arith}
use native.Mathlib.Nat.{zero-add, suc-add, le-mul_of_pos_right, mul-le-mul_left, le-div_iff_mul-le, div-lt_iff_lt-mul, mod-one, zero-mod, div-eq_of_lt, lt_of_lt_of_le}
use native.Mathlib.Numerals.{add-one}
use mathlib.Core.Path.{◌≡◌, refl, ◌∙◌, ap, sym, subst}
use mathlib.Core.Bool.{Bool, true, false, cond, ◌&&◌, false≢true}
use mathlib.Core.List.{List, [], ◌∷◌}
use lib.Dec.{leb, ltb}
use lib.ListN.{length, get_or, drop, drop_of_length-le}
use lib.Pow.{pow_mono, shr_mod}
use lib.Seq.{drop-cons}
use borrow.Author.Tests.{le-ltb, lt-ltb, le-leb, lt-leb, leb-true}
use Rattle.util.specs.Bits.{bits_of}
use Rattle.util.specs.Number.{digit_of, after_prefix, after_plus, value_of, are_digits, number_of, hex_number, decimal_number}

pub and_false : (b : Bool) → b && false ≡ false
and_false true = refl
and_false false = refl

-- what reading gives with v so far and s left
unfoldable pub rest : ℕ → ℕ → ℕ → List ℕ → Option ℕ
rest base max v s = cond (are_digits base s && leb (value_of base v s) max) (Some (value_of base v s)) None

module _ (base : ℕ) (pos : 0 < base) where
  value_grows : (v : ℕ) (s : List ℕ) → v ≤ value_of base v s
  unfolding value_of
  value_grows v [] = omega arith
  value_grows v (b ∷ s) = omega (arith, value_grows (v * base + digit_of b) s, le-mul_of_pos_right v pos)

  module _ (max v : ℕ) where
    pub rest_past : (t : List ℕ) → max < v → rest base max v t ≡ None
    unfolding rest
    rest_past t o = simp (lt-leb (value_of base v t) max (omega (arith, value_grows v t)), and_false)

  module _ (max v : ℕ) (s : List ℕ) (i : ℕ) where
    pub rest_start : 0 < length s → number_of base max s ≡ rest base max 0 s
    unfolding number_of rest
    rest_start h = simp (lt-ltb _ _ h)

    pub rest_bad : i < length s → base ≤ digit_of (get_or s i 0) → rest base max v (drop i s) ≡ None
    unfolding rest are_digits
    rest_bad h d = rw (drop-cons s i 0 h) (simp (le-ltb _ _ d))

    pub rest_step : i < length s → digit_of (get_or s i 0) < base → rest base max v (drop i s) ≡ rest base max (v * base + digit_of (get_or s i 0)) (drop (i + 1) s)
    unfolding rest are_digits value_of
    rest_step h d = rw (drop-cons s i 0 h, add-one) (simp (lt-ltb _ _ d))

    pub rest_over : i < length s → digit_of (get_or s i 0) < base → max < v * base + digit_of (get_or s i 0) → rest base max v (drop i s) ≡ None
    rest_over h d o = rest_step h d ∙ rest_past max _ _ o

    pub rest_end : length s ≤ i → v ≤ max → rest base max v (drop i s) ≡ Some v
    unfolding rest are_digits value_of
    rest_end h o = rw (drop_of_length-le s h) (simp (le-leb _ _ o))

-- numbers of i digits, each of at most half a byte, are below this
unfoldable pub below : ℕ → ℕ
below zero = 1
below (suc i) = below i * 16

pub next_below : (base v d i : ℕ) → base ≤ 16 → d < base → v < below i → v * base + d < below (i + 1)
unfolding below
next_below base v d i b k h =
    let m : v * base ≤ v * 16 = mul-le-mul_left v b in
    let e : below (i + 1) ≡ below i * 16 = ap below (add-one i) in
    omega (arith, m, k, b, h, e)

below_grows : (k i : ℕ) → below i ≤ below (k + i)
unfolding below
below_grows zero i = omega (arith, ap below (zero-add i))
below_grows (suc k) i =
    let e : below (suc k + i) ≡ below (k + i) * 16 = ap below (suc-add k i) in
    omega (arith, e, below_grows k i)

-- fifteen fit 64 bits
pub few_below : (i : ℕ) → i ≤ 15 → below i ≤ 1152921504606846976
unfolding below
few_below i h =
    let e : below ((15 - i) + i) ≡ 1152921504606846976 = ap below (let z : (15 - i) + i ≡ 15 = omega (arith, h) in z) in
    omega (arith, e, below_grows (15 - i) i)

-- no digit takes the sum past max: v * base fits where v is at most max / base, and is too large where v is above
pub fits_base : {base v max : ℕ} → 0 < base → v ≤ max / base → v * base ≤ max
fits_base pos h = (le-div_iff_mul-le pos).0 h

pub past_base : {base v max : ℕ} → 0 < base → max / base < v → max < v * base
past_base pos h = (div-lt_iff_lt-mul pos).0 h

-- bit fields of a word at the edges
module _ (w l h : ℕ) where
  pub bits_none : h < l → bits_of w l h ≡ 0
  unfolding bits_of
  bits_none o = let e : h + 1 - l ≡ 0 = omega arith in
      ap (λ k. w / 2 ^ l % 2 ^ k) e ∙ mod-one (w / 2 ^ l)

  pub bits_top : w < 2 ^ 32 → 31 ≤ h → l ≤ h → bits_of w l h ≡ w / 2 ^ l
  unfolding bits_of
  bits_top b t o = let e : h + 1 - l + l ≡ h + 1 = omega arith in
      shr_mod (h + 1 - l) l (subst (λ k. w < 2 ^ k) (sym e) (lt_of_lt_of_le b (pow_mono {i = 32} {j = h + 1} (omega arith))))

  pub bits_past : w < 2 ^ 32 → 31 < l → bits_of w l h ≡ 0
  unfolding bits_of
  bits_past b p = ap (λ n. n % 2 ^ (h + 1 - l)) (div-eq_of_lt (lt_of_lt_of_le b (pow_mono {i = 32} {j = l} (omega arith)))) ∙ zero-mod (2 ^ (h + 1 - l))

-- a number that was read is at most max
and_right : (a b : Bool) → a && b ≡ true → b ≡ true
and_right true b e = e
and_right false b e = absurd (false≢true e)

number_le : (base max : ℕ) (s : List ℕ) (v : ℕ) → number_of base max s ≡ Some v → v ≤ max
unfolding number_of
number_le base max s v = step (ltb 0 (length s) && are_digits base s && leb (value_of base 0 s) max) refl
  where
    step : (t : Bool) → ltb 0 (length s) && are_digits base s && leb (value_of base 0 s) max ≡ t → cond t (Some (value_of base 0 s)) None ≡ Some v → v ≤ max
    step true h e = let q : value_of base 0 s ≡ v = cc in
        omega (arith, leb-true (value_of base 0 s) max (and_right (ltb 0 (length s) && are_digits base s) _ h))
    step false h e = absurd (let z : ◌≡◌ {A = ℕ} 0 1 = cc in omega arith)

pub hex_le : (max : ℕ) (s : List ℕ) (v : ℕ) → hex_number max s ≡ Some v → v ≤ max
unfolding hex_number
hex_le max s v = number_le 16 max (after_plus (after_prefix s)) v

pub decimal_le : (max : ℕ) (s : List ℕ) (v : ℕ) → decimal_number max s ≡ Some v → v ≤ max
unfolding decimal_number
decimal_le max s v = number_le 10 max (after_plus s) v
