-- Laws on what is put into a buffer, and on the pairs and the words of a line. Assumes nothing.
use Rattle.std.proofs.Common.{arith, ◌≡◌, ℕ, zero, suc, ◌+◌, ◌-◌, ◌*◌, ◌/◌, ◌%◌, ◌<◌, ◌≤◌, Bool, true, false, cond, ◌&&◌, List, [], ◌∷◌, ◌++◌, length, get_or, take, drop, set, refl, sym, ap, ◌∙◌, append_assoc, add-one, drop-cons, length-append, take_all, slice_range, le-leb}
use Rattle.std.specs.Prelude.{Option, None, Some}
use Rattle.std.proofs.lemmas.List.{append-nil, take-append-drop, drop-set-lt, take_more_set}
use lib.Dec.{eqb, leb}
use borrow.Author.Tests.{ne_eqb, eq-eqb, eqb-true}
use Rattle.std.proofs.lemmas.Bool.{lt-leb}
use native.Mathlib.Decide.{dec_lt}
use lib.ListN.{drop_of_length-le, length-drop}
use lib.Seq.{length-take-le, take-nil}
use mathlib.Core.Bool.{true≢false}
use Rattle.util.specs.Number.{hex_number}
use Rattle.scan.specs.Scan.{tokens, is_space, is_not, place_from, TokenAt}
use Rattle.scan.specs.declared.Part.{Part}
use Rattle.scan.proofs.Laws.{token_there, token_missing, token_long, token_next, place_within}
use Rattle.cases.specs.Cases.{put, then_numbers, and_number, pairs_of, are_pairs, fit, pairs_put, pairs_in, no_input, input_put, input_in, numbers_of, are_numbers, numbers_in, each, listed, listed_in}

-- one number more is put
put_turn : (ws out : List ℕ) (i w : ℕ) → i < length out → take i out ++ put (w ∷ ws) (drop i out) ≡ take (i + 1) (set out i w) ++ put ws (drop (i + 1) (set out i w))
unfolding put
put_turn ws out i w h =
    ap (λ l. take i out ++ put (w ∷ ws) l) (drop-cons out i 0 h)
    ∙ ap (λ n. take i out ++ (w ∷ put ws (drop n out))) (sym (add-one i))
    ∙ sym (append_assoc (take i out) (w ∷ []) (put ws (drop (i + 1) out)))
    ∙ ap (λ l. l ++ put ws (drop (i + 1) out)) (sym (take_more_set out i w h))
    ∙ ap (λ l. take (i + 1) (set out i w) ++ put ws l) (sym (drop-set-lt (i + 1) out i w (omega arith)))

-- nothing more is put
put_none : (out : List ℕ) (i : ℕ) → take i out ++ put [] (drop i out) ≡ out
unfolding put
put_none out i = take-append-drop i out

-- there is no more room
put_empty : (ws : List ℕ) → put ws [] ≡ []
unfolding put
put_empty [] = refl
put_empty (w ∷ ws) = refl

put_stops : (ws out : List ℕ) (i : ℕ) → length out ≤ i → take i out ++ put ws (drop i out) ≡ out
put_stops ws out i h = ap (λ l. take i out ++ put ws l) (drop_of_length-le out h) ∙ ap (λ l. take i out ++ l) (put_empty ws) ∙ append-nil (take i out) ∙ take_all i out h

-- one value more of those by place
pub each_turn : (f : ℕ → ℕ) (out : List ℕ) (i w : ℕ) → i < length out → take i out ≡ each f i → w ≡ f i → take (i + 1) (set out i w) ≡ each f (i + 1)
unfolding each
each_turn f out i w h e k = take_more_set out i w h ∙ ap (λ l. l ++ w ∷ []) e ∙ ap (λ v. each f i ++ v ∷ []) k ∙ ap (λ n. each f n) (sym (add-one i))

pub each_all : (f : ℕ → ℕ) (out : List ℕ) (i n : ℕ) → n ≡ length out → i ≡ n → take i out ≡ each f i → out ≡ each f n
each_all f out i n h k e = sym (take_all i out (omega arith)) ∙ e ∙ ap (λ m. each f m) k

-- whether there are whole pairs, and room for them
pub fit_odd : (s : List ℕ) (room : ℕ) → length s % 2 ≡ 1 → fit s room ≡ false
unfolding fit
fit_odd s room h = ap (λ n. eqb n 0 && leb (length s / 2) room) h

pub fit_long : (s : List ℕ) (room : ℕ) → room < length s / 2 → fit s room ≡ false
unfolding fit
fit_long s room h = ap (λ b. eqb (length s % 2) 0 && b) (lt-leb (length s / 2) room h) ∙ nothing (eqb (length s % 2) 0)
  where
    nothing : (b : Bool) → (b && false) ≡ false
    nothing true = refl
    nothing false = refl

pub fits : (s : List ℕ) (room : ℕ) → (length s % 2 ≡ 1 → ⊥) → length s / 2 ≤ room → fit s room ≡ true
unfolding fit
fits s room h k = let n : length s % 2 ≡ 0 = omega (arith, h) in ap (λ m. eqb m 0 && leb (length s / 2) room) n ∙ le-leb (length s / 2) room k

-- nothing is put
pub no_fit : (s out : List ℕ) (room : ℕ) → fit s room ≡ false → (out ≡ put (pairs_put s room) out) × (None ≡ pairs_in s room)
unfolding pairs_put pairs_in put
no_fit s out room h = (sym (ap (λ b. put (cond b (pairs_of s) []) out) h), sym (ap (λ b. cond (b && are_pairs s) (Some (length s / 2)) None) h))

-- a list without its length, one that there is no room for, and one that is put
pub list_none : (words out : List ℕ) (room : ℕ) → length words ≡ 0 → (out ≡ put (listed words room) out) × (None ≡ listed_in words room)
unfolding put listed listed_in
list_none [] out room h = (refl, refl)
list_none (n ∷ ws) out room h = absurd (omega arith)

pub list_long : (words out : List ℕ) (room n : ℕ) (ws : List ℕ) → words ≡ n ∷ ws → room < n → (out ≡ put (listed words room) out) × (None ≡ listed_in words room)
unfolding put listed listed_in
list_long words out room n ws h l = (
  sym (ap (λ t. put (listed t room) out) h ∙ ap (λ b. put (cond b (each (λ i. get_or ws (i % length ws) 0) n) []) out) (lt-leb n room l)),
  sym (ap (λ t. listed_in t room) h ∙ ap (λ b. cond b (Some n) None) (lt-leb n room l)),
)

each_long : (f : ℕ → ℕ) (n : ℕ) → length (each f n) ≡ n
unfolding each
each_long f zero = refl
each_long f (suc n) = length-append (each f n) (f n ∷ []) ∙ omega (arith, each_long f n)

pub put_within : (ws out : List ℕ) → length ws ≤ length out → put ws out ≡ ws ++ drop (length ws) out
unfolding put
put_within [] out h = refl
put_within (w ∷ ws) [] h = absurd (omega arith)
put_within (w ∷ ws) (o ∷ out) h = ap (λ l. w ∷ l) (put_within ws out (omega arith))

pub list_fits : (words out : List ℕ) (n : ℕ) (ws : List ℕ) → words ≡ n ∷ ws → n ≤ length out → (each (λ i. get_or ws (i % length ws) 0) n ++ drop n out ≡ put (listed words (length out)) out) × (Some n ≡ listed_in words (length out))
unfolding listed listed_in
list_fits words out n ws h l = let f : ℕ → ℕ = λ i. get_or ws (i % length ws) 0 in let m = each_long f n in (
  sym (ap (λ t. put (listed t (length out)) out) h ∙ ap (λ b. put (cond b (each f n) []) out) (le-leb n (length out) l) ∙ put_within (each f n) out (omega (arith, m, l)) ∙ ap (λ k. each f n ++ drop k out) m),
  sym (ap (λ t. listed_in t (length out)) h ∙ ap (λ b. cond b (Some n) None) (le-leb n (length out) l)),
)

-- after i pairs
pub record Pairs (hex before out : List ℕ) (i : ℕ) : Type 0 where
  pub bytes : put (pairs_of hex) before ≡ take i out ++ put (pairs_of (drop (2 * i) hex)) (drop i out)
  pub alike : are_pairs hex ≡ are_pairs (drop (2 * i) hex)

pub pairs_first : (hex out : List ℕ) → Pairs hex out out 0
pairs_first hex out = record { bytes = refl; alike = refl }

module _ (hex before out : List ℕ) (i room : ℕ) (p : Pairs hex before out i) where
  rest : List ℕ
  rest = drop (2 * (i + 1)) hex

  two_on : suc (2 * i + 1) ≡ 2 * (i + 1)
  two_on = omega arith

  -- the next pair
  next : 2 * i + 2 ≤ length hex → drop (2 * i) hex ≡ get_or hex (2 * i) 0 ∷ get_or hex (2 * i + 1) 0 ∷ rest
  unfolding rest
  next h = drop-cons hex (2 * i) 0 (omega arith) ∙ ap (λ n. get_or hex (2 * i) 0 ∷ drop n hex) (sym (add-one (2 * i))) ∙ ap (λ t. get_or hex (2 * i) 0 ∷ t) (drop-cons hex (2 * i + 1) 0 (omega arith)) ∙ ap (λ n. get_or hex (2 * i) 0 ∷ get_or hex (2 * i + 1) 0 ∷ drop n hex) two_on

  number : 2 * i + 2 ≤ length hex → (o : Option ℕ) → o ≡ hex_number 255 (slice_range hex (2 * i) (2 * i + 2)) → hex_number 255 (get_or hex (2 * i) 0 ∷ get_or hex (2 * i + 1) 0 ∷ []) ≡ o
  number h o e = sym (e ∙ ap (λ n. hex_number 255 (take n (drop (2 * i) hex))) two ∙ ap (λ t. hex_number 255 (take 2 t)) (next h))
    where
      two : 2 * i + 2 - 2 * i ≡ 2
      two = omega arith

  taken : 2 * i + 2 ≤ length hex → (o : Option ℕ) → o ≡ hex_number 255 (slice_range hex (2 * i) (2 * i + 2)) → (pairs_of (drop (2 * i) hex) ≡ then_numbers o (pairs_of rest)) × (are_pairs (drop (2 * i) hex) ≡ and_number o (are_pairs rest))
  unfolding pairs_of are_pairs
  taken h o e = (ap pairs_of (next h) ∙ ap (λ w. then_numbers w (pairs_of rest)) (number h o e), ap are_pairs (next h) ∙ ap (λ w. and_number w (are_pairs rest)) (number h o e))

  -- a pair more
  pub pairs_turn : 2 * i + 2 ≤ length hex → (b : ℕ) → Some b ≡ hex_number 255 (slice_range hex (2 * i) (2 * i + 2)) → i < length out → Pairs hex before (set out i b) (i + 1)
  unfolding rest
  pairs_turn h b e k = let t = taken h (Some b) e in record {
    bytes = p.bytes ∙ ap (λ l. take i out ++ put l (drop i out)) t.0 ∙ put_turn (pairs_of rest) out i b k;
    alike = p.alike ∙ t.1;
  }

  -- none that is one
  pub pairs_bad : 2 * i + 2 ≤ length hex → None ≡ hex_number 255 (slice_range hex (2 * i) (2 * i + 2)) → fit hex room ≡ true → (out ≡ put (pairs_put hex room) before) × (None ≡ pairs_in hex room)
  unfolding pairs_put pairs_in
  pairs_bad h e f = let t = taken h None e in (
    sym (ap (λ b. put (cond b (pairs_of hex) []) before) f ∙ p.bytes ∙ ap (λ l. take i out ++ put l (drop i out)) t.0 ∙ put_none out i),
    sym (ap (λ b. cond (b && are_pairs hex) (Some (length hex / 2)) None) f ∙ ap (λ b. cond b (Some (length hex / 2)) None) (p.alike ∙ t.1)),
  )

  -- no more
  pub pairs_all : length hex ≤ 2 * i → i ≡ length hex / 2 → fit hex room ≡ true → (out ≡ put (pairs_put hex room) before) × (Some i ≡ pairs_in hex room)
  unfolding pairs_of are_pairs pairs_put pairs_in
  pairs_all h n f = let e = drop_of_length-le hex {i = 2 * i} h in (
    sym (ap (λ b. put (cond b (pairs_of hex) []) before) f ∙ p.bytes ∙ ap (λ l. take i out ++ put (pairs_of l) (drop i out)) e ∙ put_none out i),
    sym (ap (λ b. cond (b && are_pairs hex) (Some (length hex / 2)) None) f ∙ ap (λ b. cond b (Some (length hex / 2)) None) (p.alike ∙ ap are_pairs e) ∙ ap (λ m. Some m) (sym n)),
  )

-- `-`
pub input_none : (s out : List ℕ) (room : ℕ) → length s ≡ 1 → get_or s 0 0 ≡ 45 → (out ≡ put (input_put s room) out) × (Some 0 ≡ input_in s room)
unfolding no_input input_put input_in put
input_none s out room h k = let e : no_input s ≡ true = ap (λ n. eqb n 1 && eqb (get_or s 0 0) 45) h ∙ ap (λ b. eqb b 45) k in
    (sym (ap (λ b. put (cond b [] (pairs_put s room)) out) e), sym (ap (λ b. cond b (Some 0) (pairs_in s room)) e))

pub input_some : (s : List ℕ) (room : ℕ) → no_input s ≡ false → (pairs_put s room ≡ input_put s room) × (pairs_in s room ≡ input_in s room)
unfolding no_input input_put input_in
input_some s room e = (sym (ap (λ b. cond b [] (pairs_put s room)) e), sym (ap (λ b. cond b (Some 0) (pairs_in s room)) e))

pub some_long : (s : List ℕ) → (length s ≡ 1 → ⊥) → no_input s ≡ false
unfolding no_input
some_long s h = ap (λ b. b && eqb (get_or s 0 0) 45) (ne_eqb (length s) 1 h)

pub some_byte : (s : List ℕ) → (get_or s 0 0 ≡ 45 → ⊥) → no_input s ≡ false
unfolding no_input
some_byte s h = ap (λ b. eqb (length s) 1 && b) (ne_eqb (get_or s 0 0) 45 h) ∙ nothing (eqb (length s) 1)
  where
    nothing : (b : Bool) → (b && false) ≡ false
    nothing true = refl
    nothing false = refl

-- the next token, or none
pub next_token : (s : List ℕ) (at : ℕ) (t : Part) → TokenAt s at t → (eqb (length t.text.now) 0 ≡ false → tokens (drop at s) ≡ t.text.now ∷ tokens (drop t.end s)) × (eqb (length t.text.now) 0 ≡ true → tokens (drop at s) ≡ [])
next_token s at t h = go (dec_lt st (length s))
  where
    st : ℕ
    st = place_from (is_not is_space) s at

    go : Dec (st < length s) → (eqb (length t.text.now) 0 ≡ false → tokens (drop at s) ≡ t.text.now ∷ tokens (drop t.end s)) × (eqb (length t.text.now) 0 ≡ true → tokens (drop at s) ≡ [])
    go (yes l) =
        let some : st < t.end = token_long s at st t.end refl h.0 l in
        let within : t.end ≤ length s = omega (arith, h.0, place_within is_space s st (omega arith)) in
        let long : length t.text.now ≡ t.end - st = ap length h.1 ∙ length-take-le (t.end - st) (drop st s) (omega (arith, within, length-drop st s)) in (
          λ n. token_there s at st t.end refl h.0 l ∙ ap (λ p. p ∷ tokens (drop t.end s)) (sym h.1),
          λ e. absurd (omega (arith, some, long, eqb-true (length t.text.now) 0 e)),
        )
    go (no l) =
        let long : length t.text.now ≡ 0 = ap length (h.1 ∙ ap (take (t.end - st)) (drop_of_length-le s {i = st} (omega arith)) ∙ take-nil (t.end - st)) in (
          λ n. absurd (true≢false (sym (eq-eqb (length t.text.now) 0 long) ∙ n)),
          λ e. token_missing s at st t.end refl h.0 (omega arith),
        )

-- after i words, of which the last ends at `at`
pub record Words (s before out : List ℕ) (at i : ℕ) : Type 0 where
  pub words : put (numbers_of (drop 1 (tokens s))) before ≡ take i out ++ put (numbers_of (tokens (drop at s))) (drop i out)
  pub alike : are_numbers (drop 1 (tokens s)) ≡ are_numbers (tokens (drop at s))
  pub long : length (drop 1 (tokens s)) ≡ i + length (tokens (drop at s))

pub words_first : (s out : List ℕ) (t : Part) → TokenAt s 0 t → Words s out out t.end 0
words_first s out t h = let e : tokens (drop t.end s) ≡ drop 1 (tokens s) = token_next s 0 (place_from (is_not is_space) s 0) t.end refl h.0 in record {
  words = ap (λ ts. put (numbers_of ts) out) (sym e);
  alike = ap are_numbers (sym e);
  long = omega (arith, ap length e);
}

module _ {s before out : List ℕ} {at i : ℕ} (t : Part) (h : TokenAt s at t) (p : Words s before out at i) where
  -- a word more
  pub words_turn : eqb (length t.text.now) 0 ≡ false → (w : ℕ) → hex_number 4294967295 t.text.now ≡ Some w → i < length out → Words s before (set out i w) t.end (i + 1)
  unfolding numbers_of are_numbers
  words_turn n w e k = let here = (next_token s at t h).0 n in record {
    words = p.words ∙ ap (λ ts. take i out ++ put (numbers_of ts) (drop i out)) here ∙ ap (λ o. take i out ++ put (then_numbers o (numbers_of (tokens (drop t.end s)))) (drop i out)) e ∙ put_turn _ out i w k;
    alike = p.alike ∙ ap are_numbers here ∙ ap (λ o. and_number o (are_numbers (tokens (drop t.end s)))) e;
    long = omega (arith, p.long, ap length here);
  }

  -- one that is no number
  pub words_bad : eqb (length t.text.now) 0 ≡ false → hex_number 4294967295 t.text.now ≡ None → (out ≡ put (numbers_of (drop 1 (tokens s))) before) × ((room : ℕ) → None ≡ numbers_in (drop 1 (tokens s)) room)
  unfolding numbers_of are_numbers numbers_in
  words_bad n e = let here = (next_token s at t h).0 n in (
    sym (p.words ∙ ap (λ ts. take i out ++ put (numbers_of ts) (drop i out)) here ∙ ap (λ o. take i out ++ put (then_numbers o (numbers_of (tokens (drop t.end s)))) (drop i out)) e ∙ put_none out i),
    λ room. let m = length (drop 1 (tokens s)) in sym (ap (λ b. cond (b && leb m room) (Some m) None) (p.alike ∙ ap are_numbers here ∙ ap (λ o. and_number o (are_numbers (tokens (drop t.end s)))) e)),
  )

  -- no more
  pub words_all : eqb (length t.text.now) 0 ≡ true → (out ≡ put (numbers_of (drop 1 (tokens s))) before) × ((room : ℕ) → i ≤ room → Some i ≡ numbers_in (drop 1 (tokens s)) room)
  unfolding numbers_of are_numbers numbers_in
  words_all e = let here = (next_token s at t h).1 e in (
    sym (p.words ∙ ap (λ ts. take i out ++ put (numbers_of ts) (drop i out)) here ∙ put_none out i),
    λ room k. let n : length (drop 1 (tokens s)) ≡ i = omega (arith, p.long, ap length here) in sym (ap (λ b. cond (b && leb (length (drop 1 (tokens s))) room) (Some (length (drop 1 (tokens s)))) None) (p.alike ∙ ap are_numbers here) ∙ ap (λ m. cond (leb m room) (Some m) None) n ∙ ap (λ b. cond b (Some i) None) (le-leb i room k)),
  )

  -- more than there is room for
  pub words_more : eqb (length t.text.now) 0 ≡ false → length out ≤ i → (out ≡ put (numbers_of (drop 1 (tokens s))) before) × ((room : ℕ) → room ≤ i → None ≡ numbers_in (drop 1 (tokens s)) room)
  unfolding numbers_in
  words_more n k = let here = (next_token s at t h).0 n in (
    sym (p.words ∙ put_stops _ out i k),
    (λ room r. let m = length (drop 1 (tokens s)) in let l : room < m = omega (arith, r, p.long, ap length here) in sym (ap (λ q. cond (are_numbers (drop 1 (tokens s)) && q) (Some m) None) (lt-leb m room l) ∙ nothing m (are_numbers (drop 1 (tokens s))))),
  )
    where
      nothing : (m : ℕ) (q : Bool) → cond (q && false) (Some m) None ≡ None
      nothing m true = refl
      nothing m false = refl
