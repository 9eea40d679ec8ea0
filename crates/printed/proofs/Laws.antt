-- Laws on heads of result words, on lines and tunnels so far, and on what is answered. Assumes nothing.
use Rattle.std.specs.Prelude.{Err, Ok}
use Prim.Native.Nat.{ℕ, suc, ◌+◌, ◌/◌, ◌<◌, ◌≤◌}
use native.Mathlib.Omega.{arith}
use native.Mathlib.Nat.{add-zero, zero-add}
use native.Mathlib.Numerals.{add-one}
use native.Mathlib.Decide.{dec_lt}
use mathlib.Core.Path.{◌≡◌, refl, sym, ap, ◌∙◌}
use mathlib.Core.Bool.{true, false}
use mathlib.Core.List.{List, [], ◌∷◌, ◌++◌, append_assoc, append-nil}
use borrow.Author.Tests.{eq-eqb, ne_eqb, lt-ltb, le-ltb, le-leb, lt-leb}
use lib.ListN.{length, get_or, drop, drop_of_length-le, length-drop}
use lib.Seq.{drop-cons, get_or-drop, drop-drop}
use Rattle.refusal.specs.Outcome.{refused, value}
use Rattle.print.specs.Print.{most, Puts}
use Rattle.print.proofs.Laws.{capped_in, capped_out, then, nothing, full, long}
use Rattle.printing.specs.Lines.{kind_of, is_tunnel, is_hop, line_of}
use Rattle.printed.specs.Printed.{parts_of, lines_by, lines_of, one, tunnels_by, tunnels_in, in_room, output_by, PrintDone}
use Rattle.refusal.specs.declared.Refusal.TheVariants as refusal

-- the head that takes one word
part_plain : (w : ℕ) (rest : List ℕ) → is_hop w ≡ false → parts_of (w ∷ rest) ≡ (w ∷ rest) ∷ parts_of rest
unfolding parts_of
part_plain w [] e = refl
part_plain w (x ∷ ws) e = simp e

part_last : (w : ℕ) (rest : List ℕ) → length rest < 1 → parts_of (w ∷ rest) ≡ (w ∷ rest) ∷ parts_of rest
unfolding parts_of
part_last w [] h = refl
part_last w (x ∷ ws) h = absurd (omega arith)

-- a hop
part_hop : (w : ℕ) (rest : List ℕ) → is_hop w ≡ true → 0 < length rest → parts_of (w ∷ rest) ≡ (w ∷ rest) ∷ parts_of (drop 1 rest)
unfolding parts_of
part_hop w [] e h = absurd (omega arith)
part_hop w (x ∷ ws) e h = simp e

-- the head at i is followed by the one at r
abbrev pub Step : List ℕ → ℕ → ℕ → Type 0
Step t i r = parts_of (drop i t) ≡ drop i t ∷ parts_of (drop r t)

module _ (t : List ℕ) (i : ℕ) (l : i < length t) where
  pub after_plain : (get_or t i 0 / 268435456 ≡ 10 → ⊥) → Step t i (i + 1)
  unfolding is_hop kind_of
  after_plain n = rw (add-one, drop-cons t i 0 l) (part_plain (get_or t i 0) (drop (suc i) t) (ne_eqb (get_or t i 0 / 268435456) 10 n))

  pub after_last : length t < i + 2 → Step t i (i + 1)
  after_last h = rw (add-one, drop-cons t i 0 l) (part_last (get_or t i 0) (drop (suc i) t) (omega (arith, length-drop (suc i) t)))

  pub after_hop : get_or t i 0 / 268435456 ≡ 10 → i + 2 ≤ length t → Step t i (i + 2)
  unfolding is_hop kind_of
  after_hop e h =
      rw (drop-cons t i 0 l)
      (part_hop (get_or t i 0) (drop (suc i) t) (eq-eqb (get_or t i 0 / 268435456) 10 e) (omega (arith, length-drop (suc i) t))
      ∙ ap (λ s. (get_or t i 0 ∷ drop (suc i) t) ∷ parts_of s) (drop-drop 1 (suc i) t ∙ ap (λ k. drop k t) {x = suc i + 1} {y = i + 2} (omega arith)))

-- the lines put so far
pub record PutSo (words out : List ℕ) (at i : ℕ) (o : List ℕ) : Type 0 where
  pub done : List ℕ
  pub put : Puts out 0 done at o
  pub whole : done ++ lines_by (parts_of (drop i words)) ≡ lines_of words

pub none_yet : (words out : List ℕ) → PutSo words out 0 0 out
unfolding lines_of
none_yet words out = record { done = []; put = nothing out 0 (omega arith); whole = refl }

pub one_more : {words out o o' : List ℕ} {at at' i r : ℕ} → PutSo words out at i o → length out ≤ most → Step words i r → Puts o at (line_of (drop i words)) at' o'
    → PutSo words out at' r o'
unfolding lines_by
one_more {words} {i = i} {r} p h e q = record {
  done = p.done ++ line_of (drop i words);
  put = then h p.put q;
  whole =
      append_assoc p.done (line_of (drop i words)) (lines_by (parts_of (drop r words)))
      ∙ sym (ap (λ ps. p.done ++ lines_by ps) e)
      ∙ p.whole;
}

pub all_put : {words out o : List ℕ} {at i : ℕ} → PutSo words out at i o → length words ≤ i → Puts out 0 (lines_of words) at o
unfolding lines_by parts_of
all_put {words} p h = rw (sym p.whole, drop_of_length-le words h, append-nil p.done) p.put

-- the tunnels so far
pub record CountedSo (words : List ℕ) (i n : ℕ) : Type 0 where
  pub few : n ≤ i
  pub whole : n + tunnels_by (parts_of (drop i words)) ≡ tunnels_in words

pub none_counted : (words : List ℕ) → CountedSo words 0 0
unfolding tunnels_in
none_counted words = record { few = omega arith; whole = zero-add (tunnels_by (parts_of words)) }

module _ {words : List ℕ} {i n r m : ℕ} (h : CountedSo words i n) (l : i < r) (e : Step words i r) where
  counted : (k : ℕ) → k ≤ 1 → m ≡ n + k → one (is_tunnel (get_or words i 0)) ≡ k → CountedSo words r m
  unfolding tunnels_by
  counted k b a f =
      let g : tunnels_by (parts_of (drop i words)) ≡ one (is_tunnel (get_or (drop i words) 0 0)) + tunnels_by (parts_of (drop r words)) = ap tunnels_by e in
      let w : one (is_tunnel (get_or (drop i words) 0 0)) ≡ k = ap (λ w. one (is_tunnel w)) (get_or-drop i words 0 0 ∙ ap (λ j. get_or words j 0) (add-zero i)) ∙ f in
      record { few = omega (arith, h.few); whole = omega (arith, h.whole) }

  pub count_tunnel : m ≡ n + 1 → get_or words i 0 / 268435456 ≡ 8 → CountedSo words r m
  unfolding is_tunnel kind_of one
  count_tunnel a k = counted 1 (omega arith) a (ap one (eq-eqb _ 8 k))

  pub count_other : m ≡ n → (get_or words i 0 / 268435456 ≡ 8 → ⊥) → CountedSo words r m
  unfolding is_tunnel kind_of one
  count_other a k = counted 0 (omega arith) (omega arith) (ap one (ne_eqb _ 8 k))

pub counted_all : {words : List ℕ} {i n : ℕ} → CountedSo words i n → length words ≤ i → n ≡ tunnels_in words
unfolding tunnels_by parts_of
counted_all {words} {i} c h =
    let z : tunnels_by (parts_of (drop i words)) ≡ 0 = ap (λ l. tunnels_by (parts_of l)) (drop_of_length-le words h) in
    omega (arith, c.whole)

-- what is answered; the text was put nowhere first, to learn its length
module _ {s nowhere o : List ℕ} {need : ℕ} (p : Puts nowhere 0 s need o) where
  long_enough : most ≤ need → most ≤ length s
  long_enough h = go (dec_lt (length s) most)
    where
      go : Dec (length s < most) → most ≤ length s
      go (yes l) = absurd (omega (arith, long p, capped_in (length s) (omega arith)))
      go (no l) = omega arith

  exact : need < most → length s ≡ need
  exact h = go (dec_lt (length s) most)
    where
      go : Dec (length s < most) → length s ≡ need
      go (yes l) = omega (arith, long p, capped_in (length s) (omega arith))
      go (no l) = absurd (omega (arith, long p, capped_out (length s) (omega arith)))

  pub too_long : (output : List ℕ) → most ≤ need → PrintDone s output (Err (refusal.Short need)) output
  unfolding in_room output_by
  too_long output h = record { answers = simp (le-leb most (length s) (long_enough h)) (ap (λ n. refused 2 (n ∷ [])) (long p)); writes = refl }

  pub no_room : (output : List ℕ) → need < most → length output < need → PrintDone s output (Err (refusal.Short need)) output
  unfolding in_room output_by
  no_room output h k = record {
    answers =
        simp (lt-leb most (length s) (omega (arith, exact h)), lt-ltb (length output) (length s) (omega (arith, exact h)))
        (ap (λ n. refused 2 (n ∷ [])) (long p));
    writes = refl;
  }

  pub room : {output output' : List ℕ} {r : ℕ} → need < most → need ≤ length output → Puts output 0 s r output' → PrintDone s output (Ok need) output'
  unfolding in_room output_by
  room {output} h k q = record {
    answers =
        simp (lt-leb most (length s) (omega (arith, exact h)), le-ltb (length output) (length s) (omega (arith, exact h)))
        (ap value (sym (exact h)));
    writes = full (omega (arith, exact h)) q;
  }
