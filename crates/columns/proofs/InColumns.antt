-- Laws on lines in the columns that the kernel prints: words, the spaces between them, and the numbers that they write. Assumes nothing.
use Rattle.std.specs.Prelude.{Err, None, Ok, Option, Some}
use Prim.Native.Nat.{ℕ, zero, suc, ◌+◌, ◌-◌, ◌/◌, ◌%◌, ◌<◌, ◌≤◌}
use native.Mathlib.Omega.{arith}
use native.Mathlib.Numerals.{add-one}
use native.Mathlib.Nat.{add-zero}
use native.Mathlib.Decide.{dec_lt}
use mathlib.Core.Path.{◌≡◌, refl, sym, ap, subst, ◌∙◌}
use mathlib.Core.Bool.{Bool, true, false, cond, ◌&&◌, false≢true}
use mathlib.Core.List.{List, [], ◌∷◌, ◌++◌, append_assoc}
use lib.Dec.{ltb, leb, eqb}
use lib.ListN.{length, get_or, take, drop, length-drop, drop_of_length-le}
use lib.Seq.{drop-cons, drop-drop, take-nil, take-add, length-take-le, get_or-take, get_or-drop}
use borrow.Author.Tests.{lt-ltb, le-leb, ltb-true, eqb-true, ne_eqb}
use Rattle.util.specs.Number.{digit_of, value_of, are_digits, after_prefix, after_plus, number_of, hex_number, decimal_number}
use Rattle.scan.specs.Scan.{is_space, is_line_feed, place_from, on_first, pieces, filled, tokens}
use Rattle.scan.proofs.Laws.{space_above, place_here, place_on, place_end, place_within}
use Rattle.register.specs.Line.{max16, max32, is_comment, with_token, register_of, four_tokens, five_tokens, by_tokens, meaning}
use Rattle.columns.specs.Lines.{MetAt}
use Rattle.register.specs.declared.Register.{Register}
use Rattle.register.specs.declared.Skip.TheVariants.{Few}
use Rattle.columns.specs.declared.LineAt.{LineAt}
use Rattle.columns.specs.declared.Front.{Front}
use Rattle.columns.specs.Work.{packed, Digits, Spells, Parted, Prefix, Run, Ends, FrontAt, FrontsAt, ColumnsAt, QuickAt}
use Rattle.columns.proofs.Packed.{digit_first, digits_parted}

-- no separator is in it
unfoldable pub solid : List ℕ → Bool
solid [] = true
solid (b ∷ w) = cond (is_space b) false (solid w)

digit_low : (b : ℕ) → b < 48 → digit_of b ≡ 16
unfolding digit_of
digit_low b l = simp (lt-ltb b 48 l)

digit_above : (b : ℕ) → digit_of b < 16 → 47 < b
digit_above b h = go (dec_lt 47 b)
  where
    go : Dec (47 < b) → 47 < b
    go (yes l) = l
    go (no l) = absurd (omega (arith, h, digit_low b (omega arith)))

all_solid : (base : ℕ) (w : List ℕ) → base ≤ 16 → are_digits base w ≡ true → solid w ≡ true
unfolding are_digits solid
all_solid base [] k e = refl
all_solid base (b ∷ w) k e = step (ltb (digit_of b) base) refl e (all_solid base w k)
  where
    step : (t : Bool) → ltb (digit_of b) base ≡ t → t && are_digits base w ≡ true → (are_digits base w ≡ true → solid w ≡ true) → cond (is_space b) false (solid w) ≡ true
    step true l z ih = ap (λ t. cond t false (solid w)) (sym (space_above b (omega (arith, digit_above b (omega (arith, ltb-true (digit_of b) base l, k)))))) ∙ ih z
    step false l z ih = absurd (false≢true z)

-- a word that a space ends, and what follows
piece_word : (w rest : List ℕ) → solid w ≡ true → pieces is_space (w ++ 32 ∷ rest) ≡ w ∷ pieces is_space rest
unfolding solid pieces on_first is_space
piece_word [] rest e = refl
piece_word (b ∷ w) rest e = step (is_space b) e (piece_word w rest)
  where
    step : (t : Bool) → cond t false (solid w) ≡ true → (solid w ≡ true → pieces is_space (w ++ 32 ∷ rest) ≡ w ∷ pieces is_space rest) → cond t ([] ∷ pieces is_space (w ++ 32 ∷ rest)) (on_first b (pieces is_space (w ++ 32 ∷ rest))) ≡ (b ∷ w) ∷ pieces is_space rest
    step true z ih = absurd (false≢true z)
    step false z ih = ap (λ q. on_first b q) (ih z)

piece_alone : (w : List ℕ) → solid w ≡ true → pieces is_space w ≡ w ∷ []
unfolding solid pieces on_first
piece_alone [] e = refl
piece_alone (b ∷ w) e = step (is_space b) e (piece_alone w)
  where
    step : (t : Bool) → cond t false (solid w) ≡ true → (solid w ≡ true → pieces is_space w ≡ w ∷ []) → cond t ([] ∷ pieces is_space w) (on_first b (pieces is_space w)) ≡ (b ∷ w) ∷ []
    step true z ih = absurd (false≢true z)
    step false z ih = ap (λ q. on_first b q) (ih z)

filled_first : (w : List ℕ) (ps : List (List ℕ)) → 0 < length w → filled (w ∷ ps) ≡ w ∷ filled ps
unfolding filled
filled_first [] ps h = absurd (omega arith)
filled_first (b ∷ w) ps h = refl

tokens_word : (w rest : List ℕ) → 0 < length w → solid w ≡ true → tokens (w ++ 32 ∷ rest) ≡ w ∷ tokens rest
unfolding tokens
tokens_word w rest h e = ap (λ q. filled q) (piece_word w rest e) ∙ filled_first w (pieces is_space rest) h

tokens_alone : (w : List ℕ) → 0 < length w → solid w ≡ true → tokens w ≡ w ∷ []
unfolding tokens filled
tokens_alone w h e = ap (λ q. filled q) (piece_alone w e) ∙ filled_first w [] h

tokens_blank : (rest : List ℕ) → tokens (32 ∷ rest) ≡ tokens rest
unfolding tokens filled pieces is_space
tokens_blank rest = refl

-- the bytes from a place on, one by one
take_cons : (s : List ℕ) (i n : ℕ) → i < length s → take (suc n) (drop i s) ≡ get_or s i 0 ∷ take n (drop (i + 1) s)
take_cons s i n h = ap (λ t. take (suc n) t) (drop-cons s i 0 h) ∙ ap (λ k. get_or s i 0 ∷ take n (drop k s)) (sym (add-one i))

-- no LF in a word
feed_space : (b : ℕ) → is_space b ≡ false → is_line_feed b ≡ false
unfolding is_space is_line_feed
feed_space b e = ne_eqb b 10 (λ q. false≢true (sym e ∙ ap (λ x. is_space x) q))

word_line : (n : ℕ) (s : List ℕ) (i : ℕ) → i + n ≤ length s → solid (take n (drop i s)) ≡ true → place_from is_line_feed s i ≡ place_from is_line_feed s (i + n)
unfolding solid
word_line zero s i h e = ap (λ k. place_from is_line_feed s k) (let q : i ≡ i + 0 = omega arith in q)
word_line (suc n) s i h e = step (is_space (get_or s i 0)) refl (sym (ap solid (take_cons s i n (omega arith))) ∙ e) (word_line n s (i + 1) (omega arith))
  where
    step : (t : Bool) → is_space (get_or s i 0) ≡ t → cond t false (solid (take n (drop (i + 1) s))) ≡ true → (solid (take n (drop (i + 1) s)) ≡ true → place_from is_line_feed s (i + 1) ≡ place_from is_line_feed s (i + 1 + n)) → place_from is_line_feed s i ≡ place_from is_line_feed s (i + suc n)
    step true l z ih = absurd (false≢true z)
    step false l z ih = place_on is_line_feed s i (omega arith) (feed_space (get_or s i 0) l) ∙ ih z ∙ ap (λ k. place_from is_line_feed s k) (let q : i + 1 + n ≡ i + suc n = omega arith in q)

-- runs: none, a space, a word and its space, one after another
module _ (s : List ℕ) where
  pub run_none : (i : ℕ) → Run s i i []
  run_none i = record { ordered = omega arith; cut = λ m h. ap (λ n. tokens (take n (drop i s))) (let q : i - i + m ≡ m = omega arith in q); same_line = refl }

  space_line : (i : ℕ) → i < length s → get_or s i 0 ≡ 32 → place_from is_line_feed s i ≡ place_from is_line_feed s (i + 1)
  unfolding is_line_feed
  space_line i h e = place_on is_line_feed s i h (ap (λ b. eqb b 10) e)

  pub run_space : (i k : ℕ) → k ≡ i + 1 → i < length s → get_or s i 0 ≡ 32 → Run s i k []
  run_space i k q h e = record {
    ordered = omega arith;
    cut = λ m l. ap (λ n. tokens (take n (drop i s))) (let z : k - i + m ≡ suc m = omega arith in z) ∙ ap tokens (take_cons s i m h) ∙ ap (λ b. tokens (b ∷ take m (drop (i + 1) s))) e ∙ tokens_blank (take m (drop (i + 1) s)) ∙ ap (λ j. tokens (take m (drop j s))) (sym q);
    same_line = space_line i h e ∙ ap (λ j. place_from is_line_feed s j) (sym q);
  }

  pub run_word : (i n k : ℕ) → i + n + 1 ≡ k → k ≤ length s → 0 < n → solid (take n (drop i s)) ≡ true → get_or s (i + n) 0 ≡ 32 → Run s i k (take n (drop i s) ∷ [])
  run_word i n k q h pos e b = record {
    ordered = omega arith;
    cut = λ m l. ap (λ j. tokens (take j (drop i s))) (let z : k - i + m ≡ n + suc m = omega arith in z) ∙ ap tokens (parted m) ∙ tokens_word (take n (drop i s)) (take m (drop k s)) (omega (arith, full)) e;
    same_line = word_line n s i (omega arith) e ∙ space_line (i + n) (omega arith) b ∙ ap (λ j. place_from is_line_feed s j) q;
  }
    where
      full : length (take n (drop i s)) ≡ n
      full = length-take-le n (drop i s) (omega (arith, length-drop i s))

      parted : (m : ℕ) → take (n + suc m) (drop i s) ≡ take n (drop i s) ++ 32 ∷ take m (drop k s)
      parted m = take-add n (suc m) (drop i s) ∙ ap (λ t. take n (drop i s) ++ t) (ap (λ t. take (suc m) t) (drop-drop n i s) ∙ take_cons s (i + n) m (omega arith) ∙ ap (λ x. x ∷ take m (drop (i + n + 1) s)) b ∙ ap (λ j. 32 ∷ take m (drop j s)) q)

  pub run_then : {i j k : ℕ} {ts us : List (List ℕ)} → Run s i j ts → Run s j k us → Run s i k (ts ++ us)
  run_then {i} {j} {k} {ts} {us} a b = record {
    ordered = omega (arith, a.ordered, b.ordered);
    cut = λ m l. ap (λ n. tokens (take n (drop i s))) (let z : k - i + m ≡ j - i + (k - j + m) = omega (arith, a.ordered, b.ordered) in z) ∙ a.cut (k - j + m) (omega (arith, b.ordered, l)) ∙ ap (λ t. ts ++ t) (b.cut m l) ∙ sym (append_assoc ts us (tokens (take m (drop k s))));
    same_line = a.same_line ∙ b.same_line;
  }

-- the bytes at a place, and the digits that they are
abbrev later : List ℕ → ℕ → ℕ → ℕ → List ℕ
later s i k zero = []
later s i k (suc n) = get_or s (i + k) 0 ∷ later s i (suc k) n

take_later : (n : ℕ) (s : List ℕ) (i k : ℕ) → i + k + n ≤ length s → take n (drop (i + k) s) ≡ later s i k n
take_later zero s i k h = refl
take_later (suc n) s i k h = take_cons s (i + k) n (omega arith) ∙ ap (λ j. get_or s (i + k) 0 ∷ take n (drop j s)) (let q : i + k + 1 ≡ i + suc k = omega arith in q) ∙ ap (λ t. get_or s (i + k) 0 ∷ t) (take_later n s i (suc k) (omega arith))

module _ (s : List ℕ) where
  bytes_at : (i n : ℕ) → i + suc n ≤ length s → take (suc n) (drop i s) ≡ get_or s i 0 ∷ later s i 1 n
  bytes_at i n h = take_cons s i n (omega arith) ∙ ap (λ t. get_or s i 0 ∷ t) (take_later n s i 1 (omega arith))

  module _ (small : (i : ℕ) → get_or s i 0 < 256) (w v : ℕ) where
    pub eight_digits : (i : ℕ) → i + 8 ≤ length s → w ≡ packed (get_or s i 0) (get_or s (i + 1) 0) (get_or s (i + 2) 0) (get_or s (i + 3) 0) (get_or s (i + 4) 0) (get_or s (i + 5) 0) (get_or s (i + 6) 0) (get_or s (i + 7) 0) → Spells w v → Digits (take 8 (drop i s)) v
    eight_digits i h q p = subst (λ l. Digits l v) (sym (bytes_at i 7 h)) (p.spells _ _ _ _ _ _ _ _ (small i) (small (i + 1)) (small (i + 2)) (small (i + 3)) (small (i + 4)) (small (i + 5)) (small (i + 6)) (small (i + 7)) q)

    pub parted_digits : (i j k : ℕ) → i + 4 ≤ length s → j + 2 ≤ length s → k + 2 ≤ length s → w ≡ packed (get_or s i 0) (get_or s (i + 1) 0) (get_or s (i + 2) 0) (get_or s (i + 3) 0) (get_or s j 0) (get_or s (j + 1) 0) (get_or s k 0) (get_or s (k + 1) 0) → Spells w v → Parted s i j k v
    parted_digits i j k hi hj hk q p =
        let d = digits_parted (get_or s i 0) (get_or s (i + 1) 0) (get_or s (i + 2) 0) (get_or s (i + 3) 0) (get_or s j 0) (get_or s (j + 1) 0) (get_or s k 0) (get_or s (k + 1) 0) v (p.spells _ _ _ _ _ _ _ _ (small i) (small (i + 1)) (small (i + 2)) (small (i + 3)) (small j) (small (j + 1)) (small k) (small (k + 1)) q) in
        record {
          four = subst (λ l. Digits l (v / 65536)) (sym (bytes_at i 3 hi)) d.0;
          two = subst (λ l. Digits l (v / 256 % 256)) (sym (bytes_at j 1 hj)) d.1;
          last = subst (λ l. Digits l (v % 256)) (sym (bytes_at k 1 hk)) d.2;
        }

-- a word of `0x` and digits
not_plus : (b : ℕ) (w : List ℕ) → are_digits 16 (b ∷ w) ≡ true → after_plus (b ∷ w) ≡ b ∷ w
unfolding after_plus
not_plus b w e = ap (λ t. cond t w (b ∷ w)) (ne_eqb b 43 (λ q. omega (arith, q, digit_above b (digit_first b w e).0)))

number_value : (max v b : ℕ) (w : List ℕ) → Digits (b ∷ w) v → v ≤ max → number_of 16 max (b ∷ w) ≡ Some v
unfolding number_of
number_value max v b w d l = simp (lt-ltb 0 (length (b ∷ w)) (omega arith), d.all_digits, d.value_is, le-leb v max l)

hex_value : (max v : ℕ) (w : List ℕ) → 0 < length w → Digits w v → v ≤ max → hex_number max (48 ∷ 120 ∷ w) ≡ Some v
unfolding hex_number after_prefix
hex_value max v [] h d l = absurd (omega arith)
hex_value max v (b ∷ w) h d l = ap (λ t. number_of 16 max t) (not_plus b w d.all_digits) ∙ number_value max v b w d l

and_left : (a b : Bool) → a && b ≡ true → a ≡ true
and_left true b e = refl
and_left false b e = absurd (false≢true e)

and_right : (a b : Bool) → a && b ≡ true → b ≡ true
and_right true b e = e
and_right false b e = absurd (false≢true e)

-- a decimal number has no separator in it
number_digits : (base max : ℕ) (w : List ℕ) (v : ℕ) → number_of base max w ≡ Some v → are_digits base w ≡ true
unfolding number_of
number_digits base max w v = step (ltb 0 (length w) && are_digits base w && leb (value_of base 0 w) max) refl
  where
    step : (t : Bool) → ltb 0 (length w) && are_digits base w && leb (value_of base 0 w) max ≡ t → cond t (Some (value_of base 0 w)) None ≡ Some v → are_digits base w ≡ true
    step true h e = and_right (ltb 0 (length w)) (are_digits base w) (and_left (ltb 0 (length w) && are_digits base w) (leb (value_of base 0 w) max) h)
    step false h e = absurd (let z : ◌≡◌ {A = ℕ} 0 1 = cc in omega arith)

solid_plus : (w : List ℕ) → solid w ≡ true → solid (43 ∷ w) ≡ true
unfolding solid is_space
solid_plus w e = e

solid_hex : (w : List ℕ) → solid w ≡ true → solid (48 ∷ 120 ∷ w) ≡ true
unfolding solid is_space
solid_hex w e = e

decimal_solid : (max : ℕ) (w : List ℕ) (v : ℕ) → decimal_number max w ≡ Some v → solid w ≡ true
unfolding decimal_number after_plus solid
decimal_solid max [] v e = refl
decimal_solid max (b ∷ w) v e = step (eqb b 43) refl e
  where
    step : (t : Bool) → eqb b 43 ≡ t → number_of 10 max (cond t w (b ∷ w)) ≡ Some v → solid (b ∷ w) ≡ true
    step true q z = ap (λ x. solid (x ∷ w)) (eqb-true b 43 q) ∙ solid_plus w (all_solid 10 w (omega arith) (number_digits 10 max w v z))
    step false q z = all_solid 10 (b ∷ w) (omega arith) (number_digits 10 max (b ∷ w) v z)

module _ (s : List ℕ) where
  hex_bytes : (i n : ℕ) → i + 2 ≤ length s → Prefix s i → take (suc (suc n)) (drop i s) ≡ 48 ∷ 120 ∷ take n (drop (i + 2) s)
  hex_bytes i n h p = take_cons s i (suc n) (omega arith) ∙ ap (λ t. get_or s i 0 ∷ t) (take_cons s (i + 1) n (omega arith)) ∙ ap (λ b. b ∷ get_or s (i + 1) 0 ∷ take n (drop (i + 1 + 1) s)) p.zero_there ∙ ap (λ b. 48 ∷ b ∷ take n (drop (i + 1 + 1) s)) p.x_there ∙ ap (λ k. 48 ∷ 120 ∷ take n (drop k s)) (let q : i + 1 + 1 ≡ i + 2 = omega arith in q)

  hex_solid : (i j n v : ℕ) → i + 2 ≡ j → j ≤ length s → Prefix s i → Digits (take n (drop j s)) v → solid (take (suc (suc n)) (drop i s)) ≡ true
  hex_solid i j n v q h p d = ap solid (hex_bytes i n (omega arith) p) ∙ solid_hex (take n (drop (i + 2) s)) (all_solid 16 (take n (drop (i + 2) s)) (omega arith) (ap (λ k. are_digits 16 (take n (drop k s))) q ∙ d.all_digits))

  hex_number_lem : (max i j n v : ℕ) → i + 2 ≡ j → 0 < n → j + n ≤ length s → Prefix s i → Digits (take n (drop j s)) v → v ≤ max → hex_number max (take (suc (suc n)) (drop i s)) ≡ Some v
  hex_number_lem max i j n v q pos h p d l = ap (λ w. hex_number max w) (hex_bytes i n (omega arith) p ∙ ap (λ k. 48 ∷ 120 ∷ take n (drop k s)) q) ∙ hex_value max v (take n (drop j s)) (omega (arith, length-take-le n (drop j s) (omega (arith, length-drop j s)))) d l

  -- a word of `0x` and n digits, and the space after it
  run_hex : (i j n k v : ℕ) → i + 2 ≡ j → j + n + 1 ≡ k → k ≤ length s → Prefix s i → Digits (take n (drop j s)) v → get_or s (j + n) 0 ≡ 32 → Run s i k (take (suc (suc n)) (drop i s) ∷ [])
  run_hex i j n k v q z h p d b = run_word s i (suc (suc n)) k (omega arith) h (omega arith) (hex_solid i j n v q (omega arith) p d) (ap (λ x. get_or s x 0) (let y : i + suc (suc n) ≡ j + n = omega arith in y) ∙ b)

  -- the last word of a line, and all tokens of it
  line_ends : (i n k m : ℕ) → i + n ≡ k + m → Ends s i n → {ts : List (List ℕ)} → Run s i k ts → solid (take m (drop k s)) ≡ true → i + n ≡ place_from is_line_feed s i
  line_ends i n k m q e r w = sym (r.same_line ∙ word_line m s k (omega (arith, e.within)) w ∙ ap (λ x. place_from is_line_feed s x) (sym q) ∙ e.stops_there)

  line_tokens : (i n k m : ℕ) → i + n ≡ k + m → 0 < m → Ends s i n → (ts : List (List ℕ)) → Run s i k ts → solid (take m (drop k s)) ≡ true → tokens (take n (drop i s)) ≡ ts ++ take m (drop k s) ∷ []
  line_tokens i n k m q pos e ts r w = ap (λ x. tokens (take x (drop i s))) (let z : n ≡ k - i + m = omega (arith, r.ordered) in z) ∙ r.cut m (omega (arith, e.within)) ∙ ap (λ t. ts ++ t) (tokens_alone (take m (drop k s)) (omega (arith, length-take-le m (drop k s) (omega (arith, length-drop k s, e.within)))) w)

  no_comment : (i n : ℕ) → 0 < n → get_or s i 0 ≡ 48 → is_comment (take n (drop i s)) ≡ false
  unfolding is_comment
  no_comment i n h e = ap (λ b. eqb b 35) (get_or-take n (drop i s) 0 0 h ∙ get_or-drop i s 0 0 ∙ ap (λ k. get_or s k 0) (add-zero i) ∙ e)

  module _ (i : ℕ) where
    pub front_at : (k n r start : ℕ) → i + 17 ≤ length s → get_or s (i + 16) 0 ≡ 32 → Prefix s i → get_or s (i + 6) 0 ≡ 32 → get_or s (i + 11) 0 ≡ 32 → Prefix s (i + 11 + 1) → Parted s (i + 2) (i + 14) k n → n ≤ 0xffffffff → start ≤ i + 7 + 3 → Run s (i + 7) start [] → decimal_number max16 (take (i + 11 - start) (drop start s)) ≡ Some r → FrontAt s i k (record { offset = n / 65536; relative_offset = r; cap_id = n / 256 % 256; vs_cap_id = n % 256 })
    front_at k n r start h b16 p b6 b11 p12 d l before-word pad e = record {
      first = p.zero_there;
      token0 = take 6 (drop i s);
      token1 = take (i + 11 - start) (drop start s);
      token2 = take 4 (drop (i + 12) s);
      run = run_then s (run_hex i (i + 2) 4 (i + 7) (n / 65536) refl (omega arith) (omega arith) p d.four (ap (λ j. get_or s j 0) (let q : i + 2 + 4 ≡ i + 6 = omega arith in q) ∙ b6)) (run_then s pad (run_then s middle (run_hex (i + 12) (i + 14) 2 (i + 17) (n / 256 % 256) (omega arith) (omega arith) h p12' d.two (ap (λ j. get_or s j 0) (let q : i + 14 + 2 ≡ i + 16 = omega arith in q) ∙ b16))));
      offset_is = hex_number_lem max16 i (i + 2) 4 (n / 65536) refl (omega arith) (omega arith) p d.four (omega arith);
      relative_is = e;
      cap_is = hex_number_lem max16 (i + 12) (i + 14) 2 (n / 256 % 256) (omega arith) (omega arith) (omega arith) p12' d.two (omega arith);
      vs_is = d.last;
      vs_small = omega arith;
    }
      where
        p12' : Prefix s (i + 12)
        p12' = subst (λ k. Prefix s k) (let q : i + 11 + 1 ≡ i + 12 = omega arith in q) p12

        middle : Run s start (i + 12) (take (i + 11 - start) (drop start s) ∷ [])
        middle = run_word s start (i + 11 - start) (i + 12) (omega arith) (omega arith) (omega arith) (decimal_solid max16 (take (i + 11 - start) (drop start s)) r e) (ap (λ k. get_or s k 0) (let q : start + (i + 11 - start) ≡ i + 11 = omega arith in q) ∙ b11)

-- what the tokens of a line give
module _ (l a b c d : List ℕ) (o r x : ℕ) (plain : is_comment l ≡ false) (ea : hex_number max16 a ≡ Some o) (eb : decimal_number max16 b ≡ Some r) where
  meaning_four : tokens l ≡ a ∷ b ∷ c ∷ d ∷ [] → hex_number max32 d ≡ Some x → Ok (register_of o r 0 0 x) ≡ meaning l
  unfolding meaning by_tokens four_tokens with_token
  meaning_four ts ed = sym (simp (plain, ts, ea, eb, ed))

  meaning_five : (e : List ℕ) (cap vs : ℕ) → tokens l ≡ a ∷ b ∷ c ∷ d ∷ e ∷ [] → hex_number max16 c ≡ Some cap → hex_number max16 d ≡ Some vs → hex_number max32 e ≡ Some x → Ok (register_of o r cap vs x) ≡ meaning l
  unfolding meaning by_tokens five_tokens with_token
  meaning_five e cap vs ts ec ed ee = sym (simp (plain, ts, ea, eb, ec, ed, ee))

-- lines of 27 and of 32 bytes
module _ (s : List ℕ) (i k : ℕ) (f : Front) (x : ℕ) (front : FrontAt s i k f) (l : x ≤ 0xffffffff) where
  pub four_columns : Ends s i 27 → Prefix s (i + 16 + 1) → Digits (take 8 (drop (i + 19) s)) x → (i + 27 ≡ place_from is_line_feed s i) × (Ok (register_of f.offset f.relative_offset 0 0 x) ≡ meaning (take 27 (drop i s)))
  four_columns n p e = (
    line_ends s i 27 (i + 17) 10 (omega arith) n front.run w,
    meaning_four (take 27 (drop i s)) front.token0 front.token1 front.token2 (take 10 (drop (i + 17) s)) f.offset f.relative_offset x (no_comment s i 27 (omega arith) front.first) front.offset_is front.relative_is (line_tokens s i 27 (i + 17) 10 (omega arith) (omega arith) n (front.token0 ∷ front.token1 ∷ front.token2 ∷ []) front.run w) (hex_number_lem s max32 (i + 17) (i + 19) 8 x (omega arith) (omega arith) (omega (arith, n.within)) p' e l),
  )
    where
      p' : Prefix s (i + 17)
      p' = subst (λ k. Prefix s k) (let q : i + 16 + 1 ≡ i + 17 = omega arith in q) p

      w : solid (take 10 (drop (i + 17) s)) ≡ true
      w = hex_solid s (i + 17) (i + 19) 8 x (omega arith) (omega (arith, n.within)) p' e

  pub five_columns : k ≡ i + 19 → Ends s i 32 → Prefix s (i + 16 + 1) → get_or s (i + 21) 0 ≡ 32 → Prefix s (i + 21 + 1) → Digits (take 8 (drop (i + 24) s)) x → (i + 32 ≡ place_from is_line_feed s i) × (Ok (register_of f.offset f.relative_offset f.cap_id f.vs_cap_id x) ≡ meaning (take 32 (drop i s)))
  five_columns u n p b q e = (
    line_ends s i 32 (i + 22) 10 (omega arith) n run w,
    meaning_five (take 32 (drop i s)) front.token0 front.token1 front.token2 (take 4 (drop (i + 17) s)) f.offset f.relative_offset x (no_comment s i 32 (omega arith) front.first) front.offset_is front.relative_is (take 10 (drop (i + 22) s)) f.cap_id f.vs_cap_id (line_tokens s i 32 (i + 22) 10 (omega arith) (omega arith) n ts run w) front.cap_is (hex_number_lem s max16 (i + 17) (i + 19) 2 f.vs_cap_id (omega arith) (omega arith) (omega (arith, n.within)) p' d (omega (arith, front.vs_small))) (hex_number_lem s max32 (i + 22) (i + 24) 8 x (omega arith) (omega arith) (omega (arith, n.within)) q' e l),
  )
    where
      p' : Prefix s (i + 17)
      p' = subst (λ j. Prefix s j) (let z : i + 16 + 1 ≡ i + 17 = omega arith in z) p

      d : Digits (take 2 (drop (i + 19) s)) f.vs_cap_id
      d = subst (λ j. Digits (take 2 (drop j s)) f.vs_cap_id) u front.vs_is

      q' : Prefix s (i + 22)
      q' = subst (λ j. Prefix s j) (let z : i + 21 + 1 ≡ i + 22 = omega arith in z) q

      ts : List (List ℕ)
      ts = front.token0 ∷ front.token1 ∷ front.token2 ∷ take 4 (drop (i + 17) s) ∷ []

      run : Run s i (i + 22) ts
      run = run_then s front.run (run_hex s (i + 17) (i + 19) 2 (i + 22) f.vs_cap_id (omega arith) (omega arith) (omega (arith, n.within)) p' d (ap (λ j. get_or s j 0) (let z : i + 19 + 2 ≡ i + 21 = omega arith in z) ∙ b))

      w : solid (take 10 (drop (i + 22) s)) ≡ true
      w = hex_solid s (i + 22) (i + 24) 8 x (omega arith) (omega (arith, n.within)) q' e

-- LF or the end
pub ends_feed : (s : List ℕ) (i n : ℕ) → i + n < length s → get_or s (i + n) 0 ≡ 10 → Ends s i n
unfolding is_line_feed
ends_feed s i n h e = record { within = omega arith; stops_there = place_here is_line_feed s (i + n) h (ap (λ b. eqb b 10) e) }

pub ends_end : (s : List ℕ) (i n : ℕ) → i + n ≡ length s → Ends s i n
ends_end s i n e = record { within = omega arith; stops_there = place_end is_line_feed s (i + n) (omega arith) }

none_few : meaning [] ≡ Err Few
unfolding meaning by_tokens is_comment tokens pieces filled
none_few = refl

-- what an answer says, where it is known
module _ (s : List ℕ) (i : ℕ) where
  pub front_of : (k : ℕ) (o : Option Front) (f : Front) → o ≡ Some f → FrontsAt s i k o → FrontAt s i k f
  unfolding FrontsAt
  front_of k o f e h = subst (λ x. FrontsAt s i k x) e h

  pub columns_met : (n : ℕ) (o : Option Register) (r : Register) → o ≡ Some r → ColumnsAt s i n o → MetAt s i (record { met = Ok r; end = i + n })
  unfolding ColumnsAt
  columns_met n o r e h =
      let k = subst (λ x. ColumnsAt s i n x) e h in
      (k.0, k.1 ∙ ap (λ m. meaning (take m (drop i s))) (let q : n ≡ i + n - i = omega arith in q))

  pub quick_of : (o : Option LineAt) (l : LineAt) → o ≡ Some l → QuickAt s i o → MetAt s i l
  unfolding QuickAt
  quick_of o l e h = subst (λ x. QuickAt s i x) e h

  -- past the end there is no line
  pub past_few : (e : ℕ) → e ≡ place_from is_line_feed s i → length s < e → Err Few ≡ meaning (take (e - i) (drop i s))
  past_few e q h = go (dec_lt (length s) i)
    where
      go : Dec (length s < i) → Err Few ≡ meaning (take (e - i) (drop i s))
      go (yes l) = sym (ap meaning (ap (λ t. take (e - i) t) (drop_of_length-le s {i = i} (omega arith)) ∙ take-nil (e - i)) ∙ none_few)
      go (no l) = absurd (omega (arith, place_within is_line_feed s i (omega arith)))
