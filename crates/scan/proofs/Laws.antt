-- Laws on places, pieces, tokens and lines. Assumes nothing.
use Prim.Native.Nat.{ℕ, suc, ◌+◌, ◌-◌, ◌<◌, ◌≤◌}
use native.Mathlib.Omega.{arith}
use native.Mathlib.Nat.{add-zero, eq-or-lt_of_le}
use native.Mathlib.Numerals.{add-one}
use mathlib.Core.Path.{◌≡◌, refl, ◌∙◌, ap, sym}
use mathlib.Core.Bool.{Bool, true, false, cond, not}
use mathlib.Core.Logic.{⊎_elim}
use mathlib.Core.List.{List, [], ◌∷◌}
use lib.ListN.{length, get_or, take, drop, drop_of_length-le, length-drop}
use lib.Seq.{drop-cons, get_or-drop, take_all, drop-drop, length-take-le, take-nil}
use lib.Dec.{eqb}
use native.Mathlib.Decide.{dec_lt}
use borrow.Author.Tests.{ne_eqb, not-true, le-ltb}
use Rattle.scan.specs.Scan.{is_space, is_line_feed, is_high, is_not, before, place_from, TokenFrom, TokenAt, on_first, pieces, filled, tokens, ended, lines}
use Rattle.scan.specs.declared.Part.{Part}
use Rattle.std.specs.Prelude.{max}
use Rattle.std.specs.List.{fold}
use Rattle.std.proofs.Math.Nat.{le-max_left, le-max_right}
use Rattle.std.proofs.lemmas.Bool.{eqb-true, eqb-false}

module _ (p : ℕ → Bool) (s : List ℕ) (i : ℕ) where
  -- the byte at i is the first
  pub place_here : i < length s → p (get_or s i 0) ≡ true → place_from p s i ≡ i
  unfolding place_from before
  place_here h e = rw (drop-cons s i 0 h) (simp e (omega arith))

  -- it isn't
  pub place_on : i < length s → p (get_or s i 0) ≡ false → place_from p s i ≡ place_from p s (i + 1)
  unfolding place_from before
  place_on h e = rw (drop-cons s i 0 h, add-one) (simp e (omega arith))

  pub place_end : length s ≤ i → place_from p s i ≡ i
  unfolding place_from before
  place_end h = rw (drop_of_length-le s h) (omega arith)

-- no byte is above the largest
most : (s : List ℕ) (a : ℕ) → a ≤ fold max a s
most [] a = omega arith
most (b ∷ s) a = omega (arith, most s (max a b), le-max_left a b)

low : (s : List ℕ) (a : ℕ) → fold max a s < 128 → before is_high s ≡ length s
unfolding before is_high
low [] a h = refl
low (b ∷ s) a h = simp (le-ltb 127 b (omega (arith, h, most s (max a b), le-max_right a b)), low s (max a b) h)

pub none_high : (s : List ℕ) → fold max 0 s < 128 → place_from is_high s 0 ≡ length s
unfolding place_from
none_high s h = omega (arith, low s 0 h)

pub space_above : (b : ℕ) → 32 < b → false ≡ is_space b
unfolding is_space
space_above b h = simp (ne_eqb b 9 (λ e. omega (arith, e)), ne_eqb b 10 (λ e. omega (arith, e)), ne_eqb b 12 (λ e. omega (arith, e)), ne_eqb b 13 (λ e. omega (arith, e)), ne_eqb b 32 (λ e. omega (arith, e)))

pub space_last : (b : ℕ) → (b ≡ 9 → ⊥) → (b ≡ 10 → ⊥) → (b ≡ 12 → ⊥) → (b ≡ 13 → ⊥) → eqb b 32 ≡ is_space b
unfolding is_space
space_last b h1 h2 h3 h4 = simp (ne_eqb b 9 h1, ne_eqb b 10 h2, ne_eqb b 12 h3, ne_eqb b 13 h4)

-- no place is passed by
before_le : (p : ℕ → Bool) (s : List ℕ) → before p s ≤ length s
unfolding before
before_le p [] = omega arith
before_le p (b ∷ s) = step (p b) (before_le p s)
  where
    step : (t : Bool) → before p s ≤ length s → cond t 0 (suc (before p s)) ≤ suc (length s)
    step true h = omega arith
    step false h = omega arith

-- where it is not the end, a byte of p stands there
pub stops : (p : ℕ → Bool) (s : List ℕ) → before p s < length s → p (get_or s (before p s) 0) ≡ true
unfolding before
stops p [] h = absurd (omega arith)
stops p (b ∷ s) h = step (p b) refl h (λ q. stops p s q)
  where
    step : (t : Bool) → p b ≡ t → cond t 0 (suc (before p s)) < suc (length s) → (before p s < length s → p (get_or s (before p s) 0) ≡ true) → p (get_or (b ∷ s) (cond t 0 (suc (before p s))) 0) ≡ true
    step true e h ih = e
    step false e h ih = ih (omega arith)

pub place_above : (p : ℕ → Bool) (s : List ℕ) (i : ℕ) → i ≤ place_from p s i
unfolding place_from
place_above p s i = omega arith

pub place_within : (p : ℕ → Bool) (s : List ℕ) (i : ℕ) → i ≤ length s → place_from p s i ≤ length s
unfolding place_from
place_within p s i h = omega (arith, before_le p (drop i s), length-drop i s)

-- the first piece ends before the first byte of p
module _ (p : ℕ → Bool) where
  piece_first : (s : List ℕ) → before p s < length s → pieces p s ≡ take (before p s) s ∷ pieces p (drop (suc (before p s)) s)
  unfolding before pieces on_first
  piece_first [] h = absurd (omega arith)
  piece_first (b ∷ s) h = step (p b) h (λ q. piece_first s q)
    where
      step : (t : Bool) → cond t 0 (suc (before p s)) < suc (length s) → (before p s < length s → pieces p s ≡ take (before p s) s ∷ pieces p (drop (suc (before p s)) s)) → cond t ([] ∷ pieces p s) (on_first b (pieces p s)) ≡ take (cond t 0 (suc (before p s))) (b ∷ s) ∷ pieces p (drop (cond t 0 (suc (before p s))) s)
      step true h ih = refl
      step false h ih = ap (λ q. on_first b q) (ih (omega arith))

  piece_last : (s : List ℕ) → length s ≤ before p s → pieces p s ≡ s ∷ []
  unfolding before pieces on_first
  piece_last [] h = refl
  piece_last (b ∷ s) h = step (p b) h (λ q. piece_last s q)
    where
      step : (t : Bool) → suc (length s) ≤ cond t 0 (suc (before p s)) → (length s ≤ before p s → pieces p s ≡ s ∷ []) → cond t ([] ∷ pieces p s) (on_first b (pieces p s)) ≡ (b ∷ s) ∷ []
      step true h ih = absurd (omega arith)
      step false h ih = ap (λ q. on_first b q) (ih (omega arith))

-- there is always a piece after a cut
ended_more : (p : ℕ → Bool) (t s : List ℕ) → ended (t ∷ pieces p s) ≡ t ∷ ended (pieces p s)
unfolding ended pieces on_first
ended_more p t [] = refl
ended_more p t (b ∷ s) = step (p b) (pieces p s)
  where
    step : (q : Bool) (ps : List (List ℕ)) → ended (t ∷ cond q ([] ∷ ps) (on_first b ps)) ≡ t ∷ ended (cond q ([] ∷ ps) (on_first b ps))
    step true ps = refl
    step false [] = refl
    step false (u ∷ ps) = refl

filled_cons : (t : List ℕ) (ts : List (List ℕ)) → 0 < length t → filled (t ∷ ts) ≡ t ∷ filled ts
unfolding filled
filled_cons [] ts h = absurd (omega arith)
filled_cons (b ∷ t) ts h = refl

lines_none : lines [] ≡ []
unfolding lines ended pieces filled
lines_none = refl

-- one that LF ends
in_lines : (s : List ℕ) → before is_line_feed s < length s → lines s ≡ take (before is_line_feed s) s ∷ lines (drop (suc (before is_line_feed s)) s)
unfolding lines
in_lines s l = ap (λ q. ended q) (piece_first is_line_feed s l) ∙ ended_more is_line_feed _ _

-- one line that LF does not end
line_last : (s : List ℕ) → 0 < length s → length s ≤ before is_line_feed s → lines s ≡ s ∷ []
unfolding lines ended filled
line_last s h l = ap (λ q. ended q) (piece_last is_line_feed s l) ∙ filled_cons s [] h

-- the first line of a text, and those after it
lines_first : (s : List ℕ) → 0 < length s → lines s ≡ take (before is_line_feed s) s ∷ lines (drop (suc (before is_line_feed s)) s)
lines_first s h = ⊎_elim at_end in_text (eq-or-lt_of_le (before_le is_line_feed s))
  where
    n : ℕ
    n = before is_line_feed s

    in_text : n < length s → lines s ≡ take n s ∷ lines (drop (suc n) s)
    in_text l = in_lines s l

    at_end : n ≡ length s → lines s ≡ take n s ∷ lines (drop (suc n) s)
    at_end e = line_last s h (omega arith) ∙ ap (λ q. q ∷ []) (sym (take_all n s (omega arith))) ∙ ap (λ q. take n s ∷ q) (sym (ap (λ q. lines q) (drop_of_length-le s {i = suc n} (omega arith)) ∙ lines_none))

-- a separator before the tokens
tokens_space : (b : ℕ) (s : List ℕ) → is_space b ≡ true → tokens (b ∷ s) ≡ tokens s
unfolding tokens pieces filled
tokens_space b s e = simp e

tokens_skip : (s : List ℕ) → tokens s ≡ tokens (drop (before (is_not is_space) s) s)
unfolding before is_not
tokens_skip [] = refl
tokens_skip (b ∷ s) = step (is_space b) refl (tokens_skip s)
  where
    step : (t : Bool) → is_space b ≡ t → tokens s ≡ tokens (drop (before (is_not is_space) s) s) → tokens (b ∷ s) ≡ tokens (drop (cond (not t) 0 (suc (before (is_not is_space) s))) (b ∷ s))
    step true e ih = tokens_space b s e ∙ ih
    step false e ih = refl

tokens_none : tokens [] ≡ []
unfolding tokens pieces filled
tokens_none = refl

-- one that a separator ends
in_tokens : (s : List ℕ) → 0 < before is_space s → before is_space s < length s → tokens s ≡ take (before is_space s) s ∷ tokens (drop (suc (before is_space s)) s)
unfolding tokens
in_tokens s h l = ap (λ q. filled q) (piece_first is_space s l) ∙ filled_cons _ _ (omega (arith, length-take-le (before is_space s) s (omega arith)))

-- one that no separator ends
token_last : (s : List ℕ) → 0 < length s → length s ≤ before is_space s → tokens s ≡ s ∷ []
unfolding tokens filled
token_last s h l = ap (λ q. filled q) (piece_last is_space s l) ∙ filled_cons s [] h

-- the first token of a text that begins with one, and those after it
tokens_first : (s : List ℕ) → 0 < before is_space s → tokens s ≡ take (before is_space s) s ∷ tokens (drop (before is_space s) s)
tokens_first s h = ⊎_elim at_end in_text (eq-or-lt_of_le (before_le is_space s))
  where
    n : ℕ
    n = before is_space s

    in_text : n < length s → tokens s ≡ take n s ∷ tokens (drop n s)
    in_text l = in_tokens s h l ∙ ap (λ q. take n s ∷ q) (sym (ap (λ q. tokens q) (drop-cons s n 0 l) ∙ tokens_space _ _ (stops is_space s l)))

    at_end : n ≡ length s → tokens s ≡ take n s ∷ tokens (drop n s)
    at_end e = token_last s (omega arith) (omega arith) ∙ ap (λ q. q ∷ []) (sym (take_all n s (omega arith))) ∙ ap (λ q. take n s ∷ q) (sym (ap (λ q. tokens q) (drop_of_length-le s {i = n} (omega arith)) ∙ tokens_none))

place_is : (p : ℕ → Bool) (s : List ℕ) (i : ℕ) → place_from p s i ≡ i + before p (drop i s)
unfolding place_from
place_is p s i = refl

-- what follows a place is what the bytes there give
before_place : (p : ℕ → Bool) (s : List ℕ) (at e : ℕ) → e ≡ place_from p s at → before p (drop at s) ≡ e - at
unfolding place_from
before_place p s at e q = omega arith

-- the line at a place, and those after it
module _ (s : List ℕ) (at : ℕ) where
  pub line_at : (e : ℕ) → e ≡ place_from is_line_feed s at → at < length s → lines (drop at s) ≡ take (e - at) (drop at s) ∷ lines (drop (e + 1) s)
  line_at e q h = lines_first (drop at s) (omega (arith, length-drop at s)) ∙ ap (λ n. take n (drop at s) ∷ lines (drop (suc n) (drop at s))) b ∙ ap (λ t. take (e - at) (drop at s) ∷ lines t) (drop-drop (suc (e - at)) at s ∙ ap (λ n. drop n s) k)
    where
      b : before is_line_feed (drop at s) ≡ e - at
      b = before_place is_line_feed s at e q

      k : at + suc (e - at) ≡ e + 1
      k = let a : at ≤ e = rw q (place_above is_line_feed s at) in omega arith

  pub lines_end : length s ≤ at → lines (drop at s) ≡ []
  lines_end h = ap (λ t. lines t) (drop_of_length-le s h) ∙ lines_none

-- the token from a place on, which stands from st up to en, and those after it
module _ (s : List ℕ) (at st en : ℕ) (starts : st ≡ place_from (is_not is_space) s at) (ends : en ≡ place_from is_space s st) where
  at_start : at + before (is_not is_space) (drop at s) ≡ st
  at_start = sym (starts ∙ place_is (is_not is_space) s at)

  skipped : tokens (drop at s) ≡ tokens (drop st s)
  skipped = tokens_skip (drop at s) ∙ ap (λ t. tokens t) (drop-drop (before (is_not is_space) (drop at s)) at s ∙ ap (λ n. drop n s) at_start)

  -- no separator stands at its start
  begins : st < length s → is_space (get_or s st 0) ≡ false
  unfolding is_not
  begins h = not-true _ (sym (ap (λ b. not (is_space b)) (get_or-drop at s _ 0 ∙ ap (λ n. get_or s n 0) at_start)) ∙ stops (is_not is_space) (drop at s) (omega (arith, at_start, length-drop at s)))

  pub token_long : st < length s → st < en
  token_long h = let a = place_above is_space s (st + 1) in
      omega (arith, ends, place_on is_space s st h (begins h))

  pub token_there : st < length s → tokens (drop at s) ≡ take (en - st) (drop st s) ∷ tokens (drop en s)
  token_there h = skipped ∙ tokens_first (drop st s) (omega (arith, token_long h, b)) ∙ ap (λ n. take n (drop st s) ∷ tokens (drop n (drop st s))) b ∙ ap (λ t. take (en - st) (drop st s) ∷ tokens t) (drop-drop (en - st) st s ∙ ap (λ n. drop n s) k)
    where
      b : before is_space (drop st s) ≡ en - st
      b = before_place is_space s st en ends

      k : st + (en - st) ≡ en
      k = omega (arith, token_long h)

  pub token_missing : length s ≤ st → tokens (drop at s) ≡ []
  token_missing h = skipped ∙ ap (λ t. tokens t) (drop_of_length-le s h) ∙ tokens_none

  -- the same at either place, whether there is a token or not
  pub token_text : take (en - st) (drop st s) ≡ get_or (tokens (drop at s)) 0 []
  token_text = go (dec_lt st (length s))
    where
      go : Dec (st < length s) → take (en - st) (drop st s) ≡ get_or (tokens (drop at s)) 0 []
      go (yes h) = sym (ap (λ l. get_or l 0 []) (token_there h))
      go (no h) = rw (token_missing (omega arith), drop_of_length-le s {i = st} (omega arith)) (take-nil (en - st))

  pub token_next : tokens (drop en s) ≡ drop 1 (tokens (drop at s))
  token_next = go (dec_lt st (length s))
    where
      go : Dec (st < length s) → tokens (drop en s) ≡ drop 1 (tokens (drop at s))
      go (yes h) = sym (ap (λ l. drop 1 l) (token_there h))
      go (no h) = let a = place_above is_space s st in
          rw (token_missing (omega arith), drop_of_length-le s {i = en} (omega (arith, ends))) tokens_none

-- t is token k of a text; it is empty where there are not so many
pub record Nth (s : List ℕ) (k : ℕ) (t : Part) : Type 0 where
  pub within : t.end ≤ length s
  pub text : t.text.now ≡ get_or (tokens s) k []
  pub next : tokens (drop t.end s) ≡ drop (suc k) (tokens s)
  pub there : eqb (length t.text.now) 0 ≡ false → k < length (tokens s)
  pub missing : eqb (length t.text.now) 0 ≡ true → length (tokens s) ≤ k

module _ (s : List ℕ) (k at st : ℕ) (t : Part) (starts : st ≡ place_from (is_not is_space) s at) (is : TokenFrom s st t) (inside : at ≤ length s) (here : tokens (drop at s) ≡ drop k (tokens s)) where
  start_in : st ≤ length s
  start_in = rw starts (place_within (is_not is_space) s at inside)

  end_in : t.end ≤ length s
  end_in = rw is.0 (place_within is_space s st start_in)

  long : length t.text.now ≡ t.end - st
  long = ap length is.1 ∙ length-take-le (t.end - st) (drop st s) (omega (arith, end_in, length-drop st s))

  nth : Nth s k t
  nth = record {
    within = end_in;
    text = is.1 ∙ token_text s at st t.end starts is.0 ∙ ap (λ l. get_or l 0 []) here ∙ get_or-drop k (tokens s) 0 [] ∙ ap (λ n. get_or (tokens s) n []) (add-zero k);
    next = token_next s at st t.end starts is.0 ∙ ap (λ l. drop 1 l) here ∙ drop-drop 1 k (tokens s) ∙ ap (λ n. drop n (tokens s)) (add-one k);
    there = λ h. some (eqb-false _ _ h) (dec_lt st (length s));
    missing = λ h. none (eqb-true _ _ h) (dec_lt st (length s));
  }
    where
      some : (length t.text.now ≡ 0 → ⊥) → Dec (st < length s) → k < length (tokens s)
      some h (yes l) = omega (arith, ap length (token_there s at st t.end starts is.0 l), ap length here, length-drop k (tokens s))
      some h (no l) = absurd (h (omega (arith, long, end_in)))

      none : length t.text.now ≡ 0 → Dec (st < length s) → length (tokens s) ≤ k
      none h (yes l) = absurd (omega (arith, long, h, token_long s at st t.end starts is.0 l))
      none h (no l) = omega (arith, ap length (token_missing s at st t.end starts is.0 (omega arith)), ap length here, length-drop k (tokens s))

-- past the end there is no token
pub token_past : (s : List ℕ) (i : ℕ) → length s ≤ i → (i ≡ place_from is_space s (place_from (is_not is_space) s i)) × (take 0 s ≡ take (i - place_from (is_not is_space) s i) (drop (place_from (is_not is_space) s i) s))
token_past s i h =
    let n : i - i ≡ 0 = omega arith in
    rw (place_end (is_not is_space) s i h) (sym (place_end is_space s i h), rw n refl)

pub nth_first : (s : List ℕ) (t : Part) → TokenAt s 0 t → Nth s 0 t
nth_first s t h = nth s 0 0 _ t refl h (omega arith) refl

pub nth_next : {s : List ℕ} {k : ℕ} {u : Part} → Nth s k u → (t : Part) → TokenAt s u.end t → Nth s (suc k) t
nth_next {s} {k} {u} n t h = nth s (suc k) u.end _ t refl h n.within n.next

-- each token takes a byte
token_bytes : (p : ℕ → Bool) (s : List ℕ) → length (filled (pieces p s)) ≤ length s
unfolding pieces on_first filled
token_bytes p [] = omega arith
token_bytes p (b ∷ s) = step (p b) (pieces p s) (token_bytes p s)
  where
    step : (t : Bool) (ps : List (List ℕ)) → length (filled ps) ≤ length s → length (filled (cond t ([] ∷ ps) (on_first b ps))) ≤ suc (length s)
    step true ps h = omega arith
    step false [] h = omega arith
    step false ([] ∷ ps) h = omega arith
    step false ((c ∷ t) ∷ ps) h = omega arith

pub tokens_le : (s : List ℕ) → length (tokens s) ≤ length s
unfolding tokens
tokens_le s = token_bytes is_space s

-- tokens found one after another are tokens 0, 1, 2, ..
pub record Firsts (s : List ℕ) (a b c d : Part) : Type 0 where
  pub n0 : Nth s 0 a
  pub n1 : Nth s 1 b
  pub n2 : Nth s 2 c
  pub n3 : Nth s 3 d

pub firsts : (s : List ℕ) (a b c d : Part) → TokenAt s 0 a → TokenAt s a.end b → TokenAt s b.end c → TokenAt s c.end d → Firsts s a b c d
firsts s a b c d ha hb hc hd =
    let m0 = nth_first s a ha in
    let m1 = nth_next m0 b hb in
    let m2 = nth_next m1 c hc in
    record { n0 = m0; n1 = m1; n2 = m2; n3 = nth_next m2 d hd }
