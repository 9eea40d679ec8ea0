-- Laws on eight numbers in one, a byte each, and on the digits that eight bytes are. Assumes nothing.
use Prim.Native.Nat.{ℕ, ◌+◌, ◌*◌, ◌/◌, ◌%◌, ◌<◌, ◌≤◌}
use native.Mathlib.Omega.{arith}
use native.Mathlib.Nat.{div-add-mod', mod-lt}
use native.Mathlib.Decide.{dec_lt}
use mathlib.Core.Path.{◌≡◌, refl, sym, ap, subst, ◌∙◌}
use mathlib.Core.Bool.{Bool, true, false, ◌&&◌, false≢true}
use mathlib.Core.List.{List, [], ◌∷◌}
use lib.Bits.{bit_and, and_block, and_le_r}
use lib.Dec.{ltb, lit<}
use borrow.Author.Tests.{lt-ltb, le-ltb, le-leb, lt-leb, ltb-true}
use Rattle.util.specs.Number.{digit_of, value_of, are_digits}
use Rattle.columns.specs.Work.{packed, written, Lanes, Joined, Digits, Spells}

-- a mask of one byte after another takes each byte apart
record Lane (m M t : ℕ) : Type 0 where
  pub low : ℕ
  pub most : low ≤ m
  pub parts : bit_and t (m + 256 * M) ≡ low + 256 * bit_and (t / 256) M

lane : (m M t : ℕ) → m < 256 → Lane m M t
lane m M t h = record {
  low = bit_and (t % 256) m;
  most = and_le_r (t % 256) m;
  parts = ap (λ n. bit_and n (m + 256 * M)) (sym (div-add-mod' t 256)) ∙ ap (λ n. bit_and (t / 256 * 256 + t % 256) n) (let q : m + 256 * M ≡ M * 256 + m = omega arith in q) ∙ and_block 8 (t / 256) M (t % 256) m (mod-lt t (lit< tt)) h ∙ let q : bit_and (t / 256) M * 256 + bit_and (t % 256) m ≡ bit_and (t % 256) m + 256 * bit_and (t / 256) M = omega arith in q;
}

lanes : (m t : ℕ) → m < 256 → Lanes m (bit_and t (packed m m m m m m m m))
lanes m t k = record {
  a = l0.low;
  b = l1.low;
  c = l2.low;
  d = l3.low;
  e = l4.low;
  f = l5.low;
  g = l6.low;
  h = bit_and (t / 256 / 256 / 256 / 256 / 256 / 256 / 256) m;
  most = (l0.most, l1.most, l2.most, l3.most, l4.most, l5.most, l6.most, and_le_r (t / 256 / 256 / 256 / 256 / 256 / 256 / 256) m);
  is = l0.parts ∙ ap (λ n. l0.low + 256 * n) (l1.parts ∙ ap (λ n. l1.low + 256 * n) (l2.parts ∙ ap (λ n. l2.low + 256 * n) (l3.parts ∙ ap (λ n. l3.low + 256 * n) (l4.parts ∙ ap (λ n. l4.low + 256 * n) (l5.parts ∙ ap (λ n. l5.low + 256 * n) l6.parts)))));
}
  where
    l6 : Lane m m (t / 256 / 256 / 256 / 256 / 256 / 256)
    l6 = lane m m (t / 256 / 256 / 256 / 256 / 256 / 256) k

    l5 : Lane m (m + 256 * m) (t / 256 / 256 / 256 / 256 / 256)
    l5 = lane m (m + 256 * m) (t / 256 / 256 / 256 / 256 / 256) k

    l4 : Lane m (m + 256 * (m + 256 * m)) (t / 256 / 256 / 256 / 256)
    l4 = lane m (m + 256 * (m + 256 * m)) (t / 256 / 256 / 256 / 256) k

    l3 : Lane m (m + 256 * (m + 256 * (m + 256 * m))) (t / 256 / 256 / 256)
    l3 = lane m (m + 256 * (m + 256 * (m + 256 * m))) (t / 256 / 256 / 256) k

    l2 : Lane m (m + 256 * (m + 256 * (m + 256 * (m + 256 * m)))) (t / 256 / 256)
    l2 = lane m (m + 256 * (m + 256 * (m + 256 * (m + 256 * m)))) (t / 256 / 256) k

    l1 : Lane m (m + 256 * (m + 256 * (m + 256 * (m + 256 * (m + 256 * m))))) (t / 256)
    l1 = lane m (m + 256 * (m + 256 * (m + 256 * (m + 256 * (m + 256 * m))))) (t / 256) k

    l0 : Lane m (m + 256 * (m + 256 * (m + 256 * (m + 256 * (m + 256 * (m + 256 * m)))))) t
    l0 = lane m (m + 256 * (m + 256 * (m + 256 * (m + 256 * (m + 256 * (m + 256 * m)))))) t k

-- equal numbers have equal bytes
peel : (x y p q : ℕ) → x < 256 → y < 256 → x + 256 * p ≡ y + 256 * q → (x ≡ y) × (p ≡ q)
peel x y p q h k e = (omega arith, omega arith)

-- the bytes of one number
bytes_same : (a b c d e f g h a' b' c' d' e' f' g' h' : ℕ) → a < 256 → b < 256 → c < 256 → d < 256 → e < 256 → f < 256 → g < 256 → a' < 256 → b' < 256 → c' < 256 → d' < 256 → e' < 256 → f' < 256 → g' < 256 → packed a b c d e f g h ≡ packed a' b' c' d' e' f' g' h' → (a ≡ a') × (b ≡ b') × (c ≡ c') × (d ≡ d') × (e ≡ e') × (f ≡ f') × (g ≡ g') × (h ≡ h')
bytes_same a b c d e f g h a' b' c' d' e' f' g' h' la lb lc ld le lf lg la' lb' lc' ld' le' lf' lg' q =
    let p0 = peel a a' _ _ la la' q in
    let p1 = peel b b' _ _ lb lb' p0.1 in
    let p2 = peel c c' _ _ lc lc' p1.1 in
    let p3 = peel d d' _ _ ld ld' p2.1 in
    let p4 = peel e e' _ _ le le' p3.1 in
    let p5 = peel f f' _ _ lf lf' p4.1 in
    let p6 = peel g g' _ _ lg lg' p5.1 in
    (p0.0, p1.0, p2.0, p3.0, p4.0, p5.0, p6.0, p6.1)

-- a byte that writes the digit v in lower case
record Digit (b v : ℕ) : Type 0 where
  pub is : digit_of b ≡ v
  pub small : v < 16

figure_is : (b v : ℕ) → v ≤ 9 → v + 48 ≡ b → digit_of b ≡ v
unfolding digit_of
figure_is b v h e = simp (le-ltb b 48 (omega arith), le-leb b 57 (omega arith)) (omega arith)

letter_is : (b v : ℕ) → 10 ≤ v → v ≤ 15 → v + 87 ≡ b → digit_of b ≡ v
unfolding digit_of
letter_is b v h k e = simp (le-ltb b 48 (omega arith), lt-leb b 57 (omega arith), le-ltb b 65 (omega arith), lt-leb b 70 (omega arith), le-ltb b 97 (omega arith), le-leb b 102 (omega arith)) (omega arith)

-- l is 1 for a letter: z has what is left of the digit and 6 below 16
digit_is : (x l z b : ℕ) → x ≤ 15 → l ≤ 1 → z ≤ 15 → z + 16 * l ≡ x + 6 → x + 48 + 39 * l ≡ b → Digit b x
digit_is x l z b hx hl hz e q = record { is = go (dec_lt l 1); small = omega arith }
  where
    go : Dec (l < 1) → digit_of b ≡ x
    go (yes k) = figure_is b x (omega arith) (omega arith)
    go (no k) = letter_is b x (omega arith) (omega arith) (omega arith)

digits_eight : {a b c d e f g h A B C D E F G H : ℕ} → Digit a A → Digit b B → Digit c C → Digit d D → Digit e E → Digit f F → Digit g G → Digit h H → Digits (a ∷ b ∷ c ∷ d ∷ e ∷ f ∷ g ∷ h ∷ []) (written A B C D E F G H)
unfolding are_digits value_of
digits_eight a' b' c' d' e' f' g' h' = record {
  all_digits = simp (a'.is, b'.is, c'.is, d'.is, e'.is, f'.is, g'.is, h'.is, lt-ltb _ 16 a'.small, lt-ltb _ 16 b'.small, lt-ltb _ 16 c'.small, lt-ltb _ 16 d'.small, lt-ltb _ 16 e'.small, lt-ltb _ 16 f'.small, lt-ltb _ 16 g'.small, lt-ltb _ 16 h'.small);
  value_is = simp (a'.is, b'.is, c'.is, d'.is, e'.is, f'.is, g'.is, h'.is) (omega arith);
}

rest_small : (z l : ℕ) → z ≤ 15 → l ≤ 1 → z + 16 * l < 256
rest_small z l h k = omega arith

six_small : (x : ℕ) → x ≤ 15 → x + 6 < 256
six_small x h = omega arith

byte_small : (x l : ℕ) → x ≤ 15 → l ≤ 1 → x + 48 + 39 * l < 256
byte_small x l h k = omega arith

module _ (x l : ℕ) (X : Lanes 15 x) (L : Lanes 1 l) where
  bytes_are : (w : ℕ) → x + 0x3030303030303030 + 39 * l ≡ w → packed (X.a + 48 + 39 * L.a) (X.b + 48 + 39 * L.b) (X.c + 48 + 39 * L.c) (X.d + 48 + 39 * L.d) (X.e + 48 + 39 * L.e) (X.f + 48 + 39 * L.f) (X.g + 48 + 39 * L.g) (X.h + 48 + 39 * L.h) ≡ w
  bytes_are w e = omega (arith, X.is, L.is)

  rests_are : (z : ℕ) → (Z : Lanes 15 z) → z + 16 * l ≡ x + 0x0606060606060606 → packed (Z.a + 16 * L.a) (Z.b + 16 * L.b) (Z.c + 16 * L.c) (Z.d + 16 * L.d) (Z.e + 16 * L.e) (Z.f + 16 * L.f) (Z.g + 16 * L.g) (Z.h + 16 * L.h) ≡ packed (X.a + 6) (X.b + 6) (X.c + 6) (X.d + 6) (X.e + 6) (X.f + 6) (X.g + 6) (X.h + 6)
  rests_are z Z e = omega (arith, X.is, L.is, Z.is)

  -- where what is left and the bytes agree with the digits, the bytes write them
  spelled : (w z r : ℕ) → Lanes 15 z → x + 0x3030303030303030 + 39 * l ≡ w → z + 16 * l ≡ x + 0x0606060606060606 → Joined x r → Spells w r
  spelled w z r Z adds rests j = record {
    spells = λ a b c d e f g h la lb lc ld le lf lg lh s.
        let m = X.most in
        let n = L.most in
        let k = Z.most in
        let t = bytes_same (Z.a + 16 * L.a) (Z.b + 16 * L.b) (Z.c + 16 * L.c) (Z.d + 16 * L.d) (Z.e + 16 * L.e) (Z.f + 16 * L.f) (Z.g + 16 * L.g) (Z.h + 16 * L.h) (X.a + 6) (X.b + 6) (X.c + 6) (X.d + 6) (X.e + 6) (X.f + 6) (X.g + 6) (X.h + 6) (rest_small _ _ k.0 n.0) (rest_small _ _ k.1 n.1) (rest_small _ _ k.2 n.2) (rest_small _ _ k.3 n.3) (rest_small _ _ k.4 n.4) (rest_small _ _ k.5 n.5) (rest_small _ _ k.6 n.6) (six_small _ m.0) (six_small _ m.1) (six_small _ m.2) (six_small _ m.3) (six_small _ m.4) (six_small _ m.5) (six_small _ m.6) (rests_are z Z rests) in
        let u = bytes_same (X.a + 48 + 39 * L.a) (X.b + 48 + 39 * L.b) (X.c + 48 + 39 * L.c) (X.d + 48 + 39 * L.d) (X.e + 48 + 39 * L.e) (X.f + 48 + 39 * L.f) (X.g + 48 + 39 * L.g) (X.h + 48 + 39 * L.h) a b c d e f g h (byte_small _ _ m.0 n.0) (byte_small _ _ m.1 n.1) (byte_small _ _ m.2 n.2) (byte_small _ _ m.3 n.3) (byte_small _ _ m.4 n.4) (byte_small _ _ m.5 n.5) (byte_small _ _ m.6 n.6) la lb lc ld le lf lg (bytes_are w adds ∙ s) in
        subst (λ v. Digits (a ∷ b ∷ c ∷ d ∷ e ∷ f ∷ g ∷ h ∷ []) v) (sym (j.joins X))
        (digits_eight (digit_is _ _ _ _ m.0 n.0 k.0 t.0 u.0) (digit_is _ _ _ _ m.1 n.1 k.1 t.1 u.1) (digit_is _ _ _ _ m.2 n.2 k.2 t.2 u.2) (digit_is _ _ _ _ m.3 n.3 k.3 t.3 u.3) (digit_is _ _ _ _ m.4 n.4 k.4 t.4 u.4) (digit_is _ _ _ _ m.5 n.5 k.5 t.5 u.5) (digit_is _ _ _ _ m.6 n.6 k.6 t.6 u.6) (digit_is _ _ _ _ m.7 n.7 k.7 t.7 u.7));
  }

-- what `hex` takes of eight bytes: 1 for each letter, and a guess at each digit
abbrev letters : ℕ → ℕ
letters w = bit_and (w / 64) 0x0101010101010101

abbrev sums : ℕ → ℕ
sums w = bit_and w 0x0f0f0f0f0f0f0f0f + 9 * letters w

abbrev guesses : ℕ → ℕ
guesses w = bit_and (sums w) 0x0f0f0f0f0f0f0f0f

module _ (w : ℕ) where
  pub letters_most : letters w ≤ 0x0101010101010101
  letters_most = and_le_r (w / 64) 0x0101010101010101

  pub sums_most : sums w ≤ 0x1818181818181818
  sums_most = omega (arith, and_le_r w 0x0f0f0f0f0f0f0f0f, letters_most)

  pub guesses_most : guesses w ≤ 0x0f0f0f0f0f0f0f0f
  guesses_most = and_le_r (sums w) 0x0f0f0f0f0f0f0f0f

  pub guesses_lanes : Lanes 15 (guesses w)
  guesses_lanes = lanes 15 (sums w) (lit< tt)

  pub rests_most : bit_and (guesses w + 0x0606060606060606) 0x0f0f0f0f0f0f0f0f ≤ 0x0f0f0f0f0f0f0f0f
  rests_most = and_le_r (guesses w + 0x0606060606060606) 0x0f0f0f0f0f0f0f0f

  pub hex_is : (r : ℕ) → guesses w + 0x3030303030303030 + 39 * letters w ≡ w → bit_and (guesses w + 0x0606060606060606) 0x0f0f0f0f0f0f0f0f + 16 * letters w ≡ guesses w + 0x0606060606060606 → Joined (guesses w) r → Spells w r
  hex_is r adds rests j = spelled (guesses w) (letters w) guesses_lanes (lanes 1 (w / 64) (lit< tt)) w _ r (lanes 15 (guesses w + 0x0606060606060606) (lit< tt)) adds rests j

-- digits by pairs
byte_low : (x p : ℕ) → x < 256 → (x + 256 * p) % 256 ≡ x
byte_low x p h = omega arith

byte_past : (x p : ℕ) → x < 256 → (x + 256 * p) / 256 ≡ p
byte_past x p h = omega arith

past_two : (x y p : ℕ) → x < 256 → y < 256 → (x + 256 * (y + 256 * p)) / 65536 ≡ p
past_two x y p h k = omega arith

past_four : (x y z u p : ℕ) → x < 256 → y < 256 → z < 256 → u < 256 → (x + 256 * (y + 256 * (z + 256 * (u + 256 * p)))) / 0x100000000 ≡ p
past_four x y z u p h k i j = omega arith

past_six : (x y z u v w p : ℕ) → x < 256 → y < 256 → z < 256 → u < 256 → v < 256 → w < 256 → (x + 256 * (y + 256 * (z + 256 * (u + 256 * (v + 256 * (w + 256 * p)))))) / 0x1000000000000 ≡ p
past_six x y z u v w p h k i j m n = omega arith

module _ (a b c d e f g h : ℕ) where
  pairs_are : a < 256 → packed a b c d e f g h * 16 + packed a b c d e f g h / 256 ≡ packed (a * 16 + b) (b * 16 + c) (c * 16 + d) (d * 16 + e) (e * 16 + f) (f * 16 + g) (g * 16 + h) (h * 16)
  pairs_are k = ap (λ n. packed a b c d e f g h * 16 + n) (byte_past a (b + 256 * (c + 256 * (d + 256 * (e + 256 * (f + 256 * (g + 256 * h)))))) k) ∙ (let q : packed a b c d e f g h * 16 + (b + 256 * (c + 256 * (d + 256 * (e + 256 * (f + 256 * (g + 256 * h)))))) ≡ packed (a * 16 + b) (b * 16 + c) (c * 16 + d) (d * 16 + e) (e * 16 + f) (f * 16 + g) (g * 16 + h) (h * 16) = omega arith in q)

  -- one byte in two of them, as one number
  of_pairs : (n : ℕ) → n ≡ packed a b c d e f g h → a < 256 → b < 256 → c < 256 → d < 256 → e < 256 → f < 256 → g < 256 → (n % 256 * 256 + n / 0x10000 % 256) * 65536 + (n / 0x100000000 % 256 * 256 + n / 0x1000000000000 % 256) ≡ (a * 256 + c) * 65536 + (e * 256 + g)
  of_pairs n q la lb lc ld le lf lg =
      let p0 = ap (λ v. v % 256) q ∙ byte_low a _ la in
      let p1 = ap (λ v. v / 0x10000 % 256) q ∙ ap (λ v. v % 256) (past_two a b _ la lb) ∙ byte_low c _ lc in
      let p2 = ap (λ v. v / 0x100000000 % 256) q ∙ ap (λ v. v % 256) (past_four a b c d _ la lb lc ld) ∙ byte_low e _ le in
      let p3 = ap (λ v. v / 0x1000000000000 % 256) q ∙ ap (λ v. v % 256) (past_six a b c d e f _ la lb lc ld le lf) ∙ byte_low g _ lg in
      omega arith

-- eight numbers below 16 as one number
pub joined_is : (x n : ℕ) → n ≡ x * 16 + x / 256 → Joined x ((n % 256 * 256 + n / 0x10000 % 256) * 65536 + (n / 0x100000000 % 256 * 256 + n / 0x1000000000000 % 256))
joined_is x n q = record {
  joins = λ l.
      let m = l.most in
      of_pairs (l.a * 16 + l.b) (l.b * 16 + l.c) (l.c * 16 + l.d) (l.d * 16 + l.e) (l.e * 16 + l.f) (l.f * 16 + l.g) (l.g * 16 + l.h) (l.h * 16) n (q ∙ ap (λ y. y * 16 + y / 256) l.is ∙ pairs_are l.a l.b l.c l.d l.e l.f l.g l.h (omega arith)) (omega arith) (omega arith) (omega arith) (omega arith) (omega arith) (omega arith) (omega arith)
      ∙ (let z : ((l.a * 16 + l.b) * 256 + (l.c * 16 + l.d)) * 65536 + ((l.e * 16 + l.f) * 256 + (l.g * 16 + l.h)) ≡ written l.a l.b l.c l.d l.e l.f l.g l.h = omega arith in z);
}

-- the first digit and the others
pub digit_first : (b : ℕ) (w : List ℕ) → are_digits 16 (b ∷ w) ≡ true → (digit_of b < 16) × (are_digits 16 w ≡ true)
unfolding are_digits
digit_first b w e = step (ltb (digit_of b) 16) refl e
  where
    step : (t : Bool) → ltb (digit_of b) 16 ≡ t → t && are_digits 16 w ≡ true → (digit_of b < 16) × (are_digits 16 w ≡ true)
    step true q z = (ltb-true (digit_of b) 16 q, z)
    step false q z = absurd (false≢true z)

digit_on : (b : ℕ) (w : List ℕ) → digit_of b < 16 → are_digits 16 w ≡ true → are_digits 16 (b ∷ w) ≡ true
unfolding are_digits
digit_on b w h e = simp (lt-ltb (digit_of b) 16 h, e)

none_other : are_digits 16 [] ≡ true
unfolding are_digits
none_other = refl

-- eight digits as four, two and two
number_parts : (a b c d e f g h v : ℕ) → a < 16 → b < 16 → c < 16 → d < 16 → e < 16 → f < 16 → g < 16 → h < 16 → written a b c d e f g h ≡ v → ((((0 + a) * 16 + b) * 16 + c) * 16 + d ≡ v / 65536) × ((0 + e) * 16 + f ≡ v / 256 % 256) × ((0 + g) * 16 + h ≡ v % 256)
number_parts a b c d e f g h v la lb lc ld le lf lg lh q = (omega arith, omega arith, omega arith)

module _ (a b c d e f g h v : ℕ) where
  pub digits_parted : Digits (a ∷ b ∷ c ∷ d ∷ e ∷ f ∷ g ∷ h ∷ []) v → Digits (a ∷ b ∷ c ∷ d ∷ []) (v / 65536) × Digits (e ∷ f ∷ []) (v / 256 % 256) × Digits (g ∷ h ∷ []) (v % 256)
  unfolding value_of
  digits_parted s =
      let da = digit_first a (b ∷ c ∷ d ∷ e ∷ f ∷ g ∷ h ∷ []) s.all_digits in
      let db = digit_first b (c ∷ d ∷ e ∷ f ∷ g ∷ h ∷ []) da.1 in
      let dc = digit_first c (d ∷ e ∷ f ∷ g ∷ h ∷ []) db.1 in
      let dd = digit_first d (e ∷ f ∷ g ∷ h ∷ []) dc.1 in
      let de = digit_first e (f ∷ g ∷ h ∷ []) dd.1 in
      let df = digit_first f (g ∷ h ∷ []) de.1 in
      let dg = digit_first g (h ∷ []) df.1 in
      let dh = digit_first h [] dg.1 in
      let n = number_parts (digit_of a) (digit_of b) (digit_of c) (digit_of d) (digit_of e) (digit_of f) (digit_of g) (digit_of h) v da.0 db.0 dc.0 dd.0 de.0 df.0 dg.0 dh.0 (omega (arith, s.value_is)) in (
        record { all_digits = digit_on a (b ∷ c ∷ d ∷ []) da.0 (digit_on b (c ∷ d ∷ []) db.0 (digit_on c (d ∷ []) dc.0 (digit_on d [] dd.0 none_other))); value_is = n.0 },
        record { all_digits = digit_on e (f ∷ []) de.0 (digit_on f [] df.0 none_other); value_is = n.1 },
        record { all_digits = df.1; value_is = n.2 },
      )
