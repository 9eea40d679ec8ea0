-- Laws on totals, and on what is counted of a text's lines. Assumes nothing.
use Rattle.std.proofs.Common.{arith, ◌≡◌, ℕ, ◌+◌, ◌-◌, ◌<◌, ◌≤◌, Bool, true, false, cond, List, length, drop, slice_range, refl, sym, ap, ◌∙◌, subst}
use Rattle.std.specs.Prelude.{Result, Ok, Err, IfOk, IfErr, OnOk}
use lib.Dec.{eqb, ltb}
use lib.ListN.{length-drop}
use lib.Seq.{length-take-le}
use native.Mathlib.Decide.{dec_lt}
use borrow.Author.Tests.{ne_eqb, le-ltb, lt-ltb}
use Rattle.scan.specs.Scan.{is_line_feed, place_from, lines}
use Rattle.scan.proofs.Laws.{line_at, lines_end, place_above, place_within}
use Rattle.cases.specs.Cases.{one_more, Counts}
use Rattle.cases.specs.declared.totals.Totals.{Totals}

pub line_in : (t : List ℕ) (at e : ℕ) → e ≡ place_from is_line_feed t at → at < length t → (at ≤ e) × (e ≤ length t)
line_in t at e is before = (omega (arith, place_above is_line_feed t at), omega (arith, place_within is_line_feed t at (omega arith)))

-- one case more, that differs or not
pub record More (t u : Totals) : Type 0 where
  pub differ_in : t.differ ≤ t.cases → u.differ ≤ u.cases
  pub cases : u.cases ≡ t.cases + 1

one : (t : Totals) (b : Bool) → More t (one_more t b)
unfolding one_more
one t true = record { differ_in = λ h. omega arith; cases = refl }
one t false = record { differ_in = λ h. omega arith; cases = refl }

pub more : (t u : Totals) (b : Bool) → u ≡ one_more t b → More t u
more t u b e = subst (More t) (sym e) (one t b)

-- one that differs, by what is the first
differs : (t : Totals) (b : Bool) (f : ℕ) → b ≡ false → f ≡ cond (eqb t.differ 0) (t.cases + 1) t.first → record { cases = t.cases + 1; differ = t.differ + 1; first = f } ≡ one_more t b
unfolding one_more
differs t b f h k = ap (λ (n : ℕ). record { cases = t.cases + 1; differ = t.differ + 1; first = n }) k ∙ sym (ap (one_more t) h)

pub first_here : (t : Totals) (b : Bool) (f : ℕ) → b ≡ false → t.differ ≡ 0 → f ≡ t.cases + 1 → record { cases = t.cases + 1; differ = t.differ + 1; first = f } ≡ one_more t b
first_here t b f h d k = differs t b f h (k ∙ sym (ap (λ n. cond (eqb n 0) (t.cases + 1) t.first) d))

pub first_before : (t : Totals) (b : Bool) (f : ℕ) → b ≡ false → (t.differ ≡ 0 → ⊥) → f ≡ t.first → record { cases = t.cases + 1; differ = t.differ + 1; first = f } ≡ one_more t b
first_before t b f h d k = differs t b f h (k ∙ sym (ap (λ q. cond q (t.cases + 1) t.first) (ne_eqb t.differ 0 d)))

-- a test of the same order
ltb_alike : (a b c d : ℕ) → (a < b → c < d) → (b ≤ a → d ≤ c) → ltb a b ≡ ltb c d
ltb_alike a b c d f g = go (dec_lt a b)
  where
    go : Dec (a < b) → ltb a b ≡ ltb c d
    go (yes h) = lt-ltb a b h ∙ sym (lt-ltb c d (f h))
    go (no h) = let k : b ≤ a = omega arith in le-ltb a b k ∙ sym (le-ltb c d (g k))

module _ {S : Type 0} (P : S → List ℕ → Bool → Bool → S → Type 0) (s : List ℕ) (start : ℕ) (a : S) (t : Totals) where
  pub counts_turn : (e : ℕ) → e ≡ place_from is_line_feed s start → start < length s → (b : Bool) (m : S) → P a (slice_range s start e) (ltb e (length s)) b m → (u : Totals) → u ≡ one_more t b → (z : S) (t' : Totals) → Counts P m (lines (drop (e + 1) s)) (length s - (e + 1)) u z t' → Counts P a (lines (drop start s)) (length s - start) t z t'
  counts_turn e q h b m p u k z t' c =
      let place = line_in s start e q h in
      let n : length (slice_range s start e) ≡ e - start = length-take-le (e - start) (drop start s) (omega (arith, place, length-drop start s)) in
      let f : ltb e (length s) ≡ ltb (length (slice_range s start e)) (length s - start) = ltb_alike _ _ _ _ (λ l. omega (arith, n, place, l)) (λ l. omega (arith, n, place, l)) in
      let r : length s - (e + 1) ≡ length s - start - (length (slice_range s start e) + 1) = omega (arith, n, place) in
      subst (λ ls. Counts P a ls (length s - start) t z t') (sym (line_at s start e q h)) (b, m, subst (λ f'. P a (slice_range s start e) f' b m) f p, subst (λ k'. Counts P m (lines (drop (e + 1) s)) k' (one_more t b) z t') r (subst (λ v. Counts P m (lines (drop (e + 1) s)) (length s - (e + 1)) v z t') k c))

  pub counts_end : (n : ℕ) → length s ≤ start → Counts P a (lines (drop start s)) n t a t
  counts_end n h = subst (λ ls. Counts P a ls n t a t) (sym (lines_end s start h)) (refl, refl)

-- what holds of a Result where it is known
pub if_ok : {A E : Type 0} (P : A → Type 0) (r : Result A E) (a : A) → r ≡ Ok a → P a → IfOk r P
if_ok P r a e p = subst (λ q. IfOk q P) (sym e) p

pub if_err : {A E : Type 0} (P : E → Type 0) (r : Result A E) (e : E) → r ≡ Err e → P e → IfErr r P
if_err P r e k p = subst (λ q. IfErr q P) (sym k) p

pub on_ok : {A E X Y : Type 0} (r : Result A E) → (X → Y) → OnOk r X → OnOk r Y
on_ok (Ok a) f x = f x
on_ok (Err e) f x = x
