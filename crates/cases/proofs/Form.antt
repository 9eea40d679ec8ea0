-- Laws on cases in the form in which they are stored. Assumes nothing.
use Rattle.std.proofs.Common.{arith, ◌≡◌, ℕ, zero, suc, ◌+◌, ◌-◌, ◌*◌, ◌/◌, ◌%◌, ◌<◌, ◌≤◌, Bool, true, false, cond, ◌&&◌, List, [], ◌∷◌, ◌++◌, length, get_or, take, drop, set, refl, sym, ap, ◌∙◌, append_assoc, add-one, drop-cons, take_all, le-leb}
use Rattle.std.specs.Prelude.{Option, None, Some, option_and_then, unwrap_or}
use Rattle.std.specs.List.{list_all}
use Rattle.std.proofs.lemmas.List.{append-nil, take_more_set}
use Rattle.std.proofs.lemmas.Bool.{lt-leb}
use lib.Dec.{eqb, leb, ltb}
use borrow.Author.Tests.{ne_eqb, eq-eqb, eqb-true, leb-true}
use native.Mathlib.Decide.{dec_le}
use mathlib.Core.Bool.{true≢false, false≢true}
use Rattle.std.proofs.Math.ListN.{length-set}
use Rattle.cases.proofs.Laws.{put_within}
use lib.ListN.{drop_of_length-le}
use Rattle.cases.specs.Cases.{put, fit, no_input}
use Rattle.cases.specs.Stored.{low_pairs, byte_of, is_low, is_stored, stored_put, stored_in, word_at, word_value, after_words, say, says, list_in, list_words, list_put}

-- where a word stands, nine bytes do
pub word_short : (s : List ℕ) → length s < 9 → word_at s ≡ None
unfolding word_at
word_short s h = ap (λ b. cond (b && (eqb (get_or s 0 0) 32 && list_all (λ b. is_low b) (take 8 (drop 1 s)))) (Some (word_value s)) None) (lt-leb 9 (length s) h)

-- the next word is that one, another, or none
pub after_same : (s : List ℕ) (w : ℕ) (ws : List ℕ) → word_at s ≡ Some w → after_words s (w ∷ ws) ≡ after_words (drop 9 s) ws
unfolding after_words
after_same s w ws h = ap (λ o. option_and_then (λ v. cond (eqb v w) (after_words (drop 9 s) ws) None) o) h ∙ ap (λ b. cond b (after_words (drop 9 s) ws) None) (eq-eqb w w refl)

pub after_other : (s : List ℕ) (v w : ℕ) (ws : List ℕ) → word_at s ≡ Some v → (v ≡ w → ⊥) → after_words s (w ∷ ws) ≡ None
unfolding after_words
after_other s v w ws h k = ap (λ o. option_and_then (λ u. cond (eqb u w) (after_words (drop 9 s) ws) None) o) h ∙ ap (λ b. cond b (after_words (drop 9 s) ws) None) (ne_eqb v w k)

pub after_none : (s : List ℕ) (w : ℕ) (ws : List ℕ) → word_at s ≡ None → after_words s (w ∷ ws) ≡ None
unfolding after_words
after_none s w ws h = ap (λ o. option_and_then (λ v. cond (eqb v w) (after_words (drop 9 s) ws) None) o) h

-- what is left of the words, from here on
module _ (rest words at : List ℕ) (i : ℕ) (p : after_words rest words ≡ after_words at (drop i words)) where
  here : i < length words → after_words rest words ≡ after_words at (get_or words i 0 ∷ drop (i + 1) words)
  here h = p ∙ ap (λ l. after_words at l) (drop-cons words i 0 h) ∙ ap (λ n. after_words at (get_or words i 0 ∷ drop n words)) (sym (add-one i))

  pub after_stops : i < length words → word_at at ≡ None → None ≡ after_words rest words
  after_stops h e = sym (here h ∙ after_none at (get_or words i 0) (drop (i + 1) words) e)

  pub after_differs : i < length words → (v : ℕ) → word_at at ≡ Some v → (v ≡ get_or words i 0 → ⊥) → None ≡ after_words rest words
  after_differs h v e k = sym (here h ∙ after_other at v (get_or words i 0) (drop (i + 1) words) e k)

  pub after_goes : i < length words → (v : ℕ) → word_at at ≡ Some v → v ≡ get_or words i 0 → (more : List ℕ) → more ≡ drop 9 at → after_words rest words ≡ after_words more (drop (i + 1) words)
  after_goes h v e k more m = here h ∙ after_same at (get_or words i 0) (drop (i + 1) words) (e ∙ ap (λ n. Some n) k) ∙ ap (λ l. after_words l (drop (i + 1) words)) (sym m)

  pub after_all : length words ≤ i → Some at ≡ after_words rest words
  unfolding after_words
  after_all h = sym (p ∙ ap (λ l. after_words at l) (drop_of_length-le words {i = i} h))

-- no word stands where nine bytes don't
pub no_word : (s : List ℕ) → (9 ≤ length s → false ≡ true) → word_at s ≡ None
no_word s f = go (dec_le 9 (length s))
  where
    go : Dec (9 ≤ length s) → word_at s ≡ None
    go (yes h) = absurd (false≢true (f h))
    go (no h) = word_short s (omega arith)

-- one pair more
module _ (hex out : List ℕ) (i : ℕ) where
  two_on : suc (2 * i + 1) ≡ 2 * (i + 1)
  two_on = omega arith

  two : 2 * i + 2 ≤ length hex → drop (2 * i) hex ≡ get_or hex (2 * i) 0 ∷ get_or hex (2 * i + 1) 0 ∷ drop (2 * (i + 1)) hex
  two h = drop-cons hex (2 * i) 0 (omega arith) ∙ ap (λ n. get_or hex (2 * i) 0 ∷ drop n hex) (sym (add-one (2 * i))) ∙ ap (λ t. get_or hex (2 * i) 0 ∷ t) (drop-cons hex (2 * i + 1) 0 (omega arith)) ∙ ap (λ n. get_or hex (2 * i) 0 ∷ get_or hex (2 * i + 1) 0 ∷ drop n hex) two_on

  pub low_turn : (b : ℕ) → b ≡ byte_of (get_or hex (2 * i) 0) (get_or hex (2 * i + 1) 0) → 2 * i + 2 ≤ length hex → i < length out → low_pairs hex ≡ take i out ++ low_pairs (drop (2 * i) hex) → low_pairs hex ≡ take (i + 1) (set out i b) ++ low_pairs (drop (2 * (i + 1)) hex)
  unfolding low_pairs
  low_turn b e h k p = p ∙ ap (λ l. take i out ++ low_pairs l) (two h) ∙ ap (λ v. take i out ++ (v ∷ low_pairs (drop (2 * (i + 1)) hex))) (sym e) ∙ sym (append_assoc (take i out) (b ∷ []) (low_pairs (drop (2 * (i + 1)) hex))) ∙ ap (λ l. l ++ low_pairs (drop (2 * (i + 1)) hex)) (sym (take_more_set out i b k))

  pub low_all : length hex ≤ 2 * i → length out ≤ i → low_pairs hex ≡ take i out ++ low_pairs (drop (2 * i) hex) → out ≡ low_pairs hex
  unfolding low_pairs
  low_all h k p = sym (p ∙ ap (λ l. take i out ++ low_pairs l) (drop_of_length-le hex {i = 2 * i} h) ∙ append-nil (take i out) ∙ take_all i out k)

low_long : (s : List ℕ) → length (low_pairs s) ≡ length s / 2
unfolding low_pairs
low_long [] = refl
low_long (h ∷ []) = refl
low_long (h ∷ l ∷ s) = omega (arith, low_long s)

both : (a b : Bool) → true ≡ (a && b) → (true ≡ a) × (true ≡ b)
both true b h = (refl, h)
both false b h = absurd (true≢false h)

-- what is stored so has whole pairs, and there is room for their bytes
pub stored_fits : (s : List ℕ) (room : ℕ) → true ≡ is_stored s room → (length s % 2 ≡ 0) × (length s / 2 ≤ room)
unfolding is_stored fit
stored_fits s room h =
    let front = both (ltb 0 (length s) && fit s room) (list_all (λ b. is_low b) s) h in
    let here = both (ltb 0 (length s)) (fit s room) front.0 in
    let parts = both (eqb (length s % 2) 0) (leb (length s / 2) room) here.1 in
    (eqb-true (length s % 2) 0 (sym parts.0), leb-true (length s / 2) room (sym parts.1))

-- `-`, what is not stored so, and an input
pub input_dash : (s out : List ℕ) (room : ℕ) → true ≡ no_input s → (out ≡ put (stored_put s room) out) × (Some 0 ≡ stored_in s room)
unfolding stored_put stored_in put
input_dash s out room h = (ap (λ b. put (cond b [] (cond (is_stored s room) (low_pairs s) [])) out) h, ap (λ b. cond b (Some 0) (cond (is_stored s room) (Some (length s / 2)) None)) h)

module _ (s out : List ℕ) (room : ℕ) (d : false ≡ no_input s) where
  pub input_other : false ≡ is_stored s room → (out ≡ put (stored_put s room) out) × (None ≡ stored_in s room)
  unfolding stored_put stored_in put
  input_other h = (
    ap (λ b. put (cond b (low_pairs s) []) out) h ∙ ap (λ b. put (cond b [] (cond (is_stored s room) (low_pairs s) [])) out) d,
    ap (λ b. cond b (Some (length s / 2)) None) h ∙ ap (λ b. cond b (Some 0) (cond (is_stored s room) (Some (length s / 2)) None)) d,
  )

  pub input_stored : true ≡ is_stored s room → length s / 2 ≤ length out → (low_pairs s ++ drop (length s / 2) out ≡ put (stored_put s room) out) × (Some (length s / 2) ≡ stored_in s room)
  unfolding stored_put stored_in
  input_stored h k = (
    ap (λ n. low_pairs s ++ drop n out) (sym (low_long s)) ∙ sym (put_within (low_pairs s) out (omega (arith, low_long s, k))) ∙ ap (λ b. put (cond b (low_pairs s) []) out) h ∙ ap (λ b. put (cond b [] (cond (is_stored s room) (low_pairs s) [])) out) d,
    ap (λ b. cond b (Some (length s / 2)) None) h ∙ ap (λ b. cond b (Some 0) (cond (is_stored s room) (Some (length s / 2)) None)) d,
  )

-- one word more is said
module _ (s a out : List ℕ) (i : ℕ) (h : i < length out) (p : says s s (length out) ≡ take i out ++ says s a (length out - i)) where
  less : length out - i ≡ suc (length out - (i + 1))
  less = omega arith

  onward : (out' a' : List ℕ) (w : ℕ) → out' ≡ set out i w → says s a (suc (length out - (i + 1))) ≡ w ∷ says s a' (length out - (i + 1)) → says s s (length out') ≡ take (i + 1) out' ++ says s a' (length out' - (i + 1))
  onward out' a' w o e =
      let m : length out' ≡ length out = ap length o ∙ simp length-set in
      let ws : List ℕ = says s a' (length out - (i + 1)) in
      ap (λ k. says s s k) m ∙ p ∙ ap (λ k. take i out ++ says s a k) less ∙ ap (λ l. take i out ++ l) e ∙ sym (append_assoc (take i out) (w ∷ []) ws) ∙ ap (λ l. l ++ ws) (sym (take_more_set out i w h)) ∙ ap (λ l. take (i + 1) l ++ ws) (sym o) ∙ ap (λ k. take (i + 1) out' ++ says s a' (k - (i + 1))) (sym m)

  pub says_word : (out' a' : List ℕ) (w : ℕ) → word_at a ≡ Some w → out' ≡ set out i w → a' ≡ drop 9 a → says s s (length out') ≡ take (i + 1) out' ++ says s a' (length out' - (i + 1))
  unfolding says say
  says_word out' a' w e o q = let n : ℕ = length out - (i + 1) in
      onward out' a' w o (ap (λ t. say t s (says s (drop 9 a) n) (says s (drop 9 s) n)) e ∙ ap (λ l. w ∷ says s l n) (sym q))

  pub says_again : (out' a' : List ℕ) (w : ℕ) → word_at a ≡ None → w ≡ unwrap_or (word_at s) 0 → out' ≡ set out i w → a' ≡ drop 9 s → says s s (length out') ≡ take (i + 1) out' ++ says s a' (length out' - (i + 1))
  unfolding says say
  says_again out' a' w e k o q = let n : ℕ = length out - (i + 1) in
      onward out' a' w o (ap (λ t. say t s (says s (drop 9 a) n) (says s (drop 9 s) n)) e ∙ ap (λ v. v ∷ says s (drop 9 s) n) (sym k) ∙ ap (λ l. w ∷ says s l n) (sym q))

pub says_all : (s a out : List ℕ) (i n : ℕ) → length out ≤ i → length out ≡ n → says s s (length out) ≡ take i out ++ says s a (length out - i) → out ≡ says s s n
unfolding says
says_all s a out i n h m p = let e : length out - i ≡ 0 = omega arith in sym (ap (λ k. says s s k) (sym m) ∙ p ∙ ap (λ k. take i out ++ says s a k) e ∙ append-nil (take i out) ∙ take_all i out h)

say_long : (o : Option ℕ) (s here again : List ℕ) (n : ℕ) → length here ≡ n → length again ≡ n → length (say o s here again) ≡ suc n
unfolding say
say_long (Some w) s here again n h k = ap suc h
say_long None s here again n h k = ap suc k

says_long : (s a : List ℕ) (n : ℕ) → length (says s a n) ≡ n
unfolding says
says_long s a zero = refl
says_long s a (suc n) = say_long (word_at a) s _ _ n (says_long s (drop 9 a) n) (says_long s (drop 9 s) n)

-- a list without its length, one that there is no room for, and one that is put
pub no_length : (s out : List ℕ) (room : ℕ) → word_at s ≡ None → (out ≡ put (list_put s room) out) × (None ≡ list_in s room)
unfolding put list_put list_in list_words
no_length s out room h = (
  sym (ap (λ o. put (list_words s (option_and_then (λ n. cond (leb n room) (Some n) None) o)) out) h),
  sym (ap (λ o. option_and_then (λ n. cond (leb n room) (Some n) None) o) h),
)

pub no_room : (s out : List ℕ) (room n : ℕ) → word_at s ≡ Some n → room < n → (out ≡ put (list_put s room) out) × (None ≡ list_in s room)
unfolding put list_put list_in list_words
no_room s out room n h l = let e : list_in s room ≡ None = ap (λ o. option_and_then (λ n. cond (leb n room) (Some n) None) o) h ∙ ap (λ b. cond b (Some n) None) (lt-leb n room l) in
    (sym (ap (λ o. put (list_words s o) out) e), sym e)

pub list_said : (s out : List ℕ) (n : ℕ) → word_at s ≡ Some n → n ≤ length out → (says (drop 9 s) (drop 9 s) n ++ drop n out ≡ put (list_put s (length out)) out) × (Some n ≡ list_in s (length out))
unfolding list_put list_in list_words
list_said s out n h l =
    let e : list_in s (length out) ≡ Some n = ap (λ o. option_and_then (λ n. cond (leb n (length out)) (Some n) None) o) h ∙ ap (λ b. cond b (Some n) None) (le-leb n (length out) l) in
    let m : length (says (drop 9 s) (drop 9 s) n) ≡ n = says_long _ _ n in (
      ap (λ k. says (drop 9 s) (drop 9 s) n ++ drop k out) (sym m) ∙ sym (put_within (says (drop 9 s) (drop 9 s) n) out (omega (arith, m, l))) ∙ sym (ap (λ o. put (list_words s o) out) e),
      sym e,
    )
