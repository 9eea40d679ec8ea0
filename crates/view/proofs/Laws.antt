-- Laws on a device's group: its bounds are ordered and inside the words, and it has at least its head's four words. Assumes nothing.
use Rattle.std.specs.Prelude.{Option, None, Some, Result, Ok, Err, ok_or}
use Prim.Native.Nat.{ℕ, zero, suc, ◌+◌, ◌-◌, ◌<◌, ◌≤◌}
use native.Mathlib.Omega.{arith}
use native.Mathlib.Decide.{dec_lt, dec_le, ℕ_discrete}
use native.Mathlib.Nat.{le_refl, le_trans}
use mathlib.Core.Path.{◌≡◌, refl, ◌∙◌, ap, sym, subst}
use mathlib.Core.Bool.{Bool, true, false, false≢true}
use mathlib.Core.List.{List, [], ◌∷◌}
use lib.ListN.{length, get_or, take, drop, length-take, length-drop}
use borrow.Author.Tests.{lt-ltb, le-ltb}
use Rattle.refusal.specs.Outcome.{Outcome, refused, value, bind}
use Rattle.refusal.specs.Refusal.{outcome}
use Rattle.refusal.specs.declared.Refusal.{Refusal}
use Rattle.refusal.specs.declared.Refusal.TheVariants as refusal
use Rattle.refusal.proofs.Laws.{numbered}
use Rattle.layout.specs.Layout.{kind}
use Rattle.survey.specs.Words.{size_of}
use Rattle.survey.specs.Rules.{check_of}
use Rattle.survey.specs.Places.{device_heads, group_at}
use Rattle.survey.specs.Work.{heads_at}
use Rattle.survey.specs.declared.Bounds.{Bounds}
use Rattle.survey.proofs.Laws.{heads_end, heads_cut, heads_device, heads_other, size_pos}
use Rattle.view.specs.View.{bounds_by, group_place, words_by, group_words}

-- heads from i on, each with its four words before the next and before n
data Spaced (n : ℕ) : ℕ → List ℕ → Type 0 where
  none : {i : ℕ} → Spaced n i []
  head : {i h : ℕ} {hs : List ℕ} → i ≤ h → h + 4 ≤ n → Spaced n (h + 4) hs → Spaced n i (h ∷ hs)

spaced_later : {n i j : ℕ} {hs : List ℕ} → i ≤ j → Spaced n j hs → Spaced n i hs
spaced_later l none = none
spaced_later l (head b r s) = head (le_trans l b) r s

-- the group of a head
spaced_at : {n i : ℕ} {hs : List ℕ} → Spaced n i hs → (p : ℕ) → p < length hs → (get_or hs p 0 + 4 ≤ get_or hs (suc p) n) × (get_or hs (suc p) n ≤ n)
spaced_at none p h = absurd (omega arith)
spaced_at (head b r none) zero h = (r, omega arith)
spaced_at (head b r (head b' r' s)) zero h = (b', omega arith)
spaced_at (head b r s) (suc p) h = spaced_at s p (omega arith)

module _ (t : List ℕ) where
  -- the fuel is enough to come to the end
  heads_spaced : (fuel i : ℕ) → length t ≤ i + fuel → Spaced (length t) i (heads_at t i)
  heads_spaced zero i e = subst (λ (hs : List ℕ). Spaced (length t) i hs) (sym (heads_end t i (omega arith))) none
  heads_spaced (suc fuel) i e = go (dec_lt i (length t)) (dec_le (size_of (get_or t i 0)) (length t - i)) (ℕ_discrete (kind (get_or t i 0)) 3) (λ k h. heads_spaced fuel k h)
    where
      go : Dec (i < length t) → Dec (size_of (get_or t i 0) ≤ length t - i) → Dec (kind (get_or t i 0) ≡ 3) → ((k : ℕ) → length t ≤ k + fuel → Spaced (length t) k (heads_at t k)) → Spaced (length t) i (heads_at t i)
      go (no h) w d ih = subst (λ (hs : List ℕ). Spaced (length t) i hs) (sym (heads_end t i (omega arith))) none
      go (yes h) (no w) d ih = subst (λ (hs : List ℕ). Spaced (length t) i hs) (sym (heads_cut t i h (omega arith))) none
      go (yes h) (yes w) (yes d) ih = let x = heads_device t i h d w in
          subst (λ (hs : List ℕ). Spaced (length t) i hs) (sym x.1) (head (le_refl i) (omega (arith, x.0)) (ih (i + 4) (omega arith)))
      go (yes h) (yes w) (no d) ih =
          subst (λ (hs : List ℕ). Spaced (length t) i hs) (sym (heads_other t i h d w)) (spaced_later (omega arith) (ih (i + size_of (get_or t i 0)) (omega (arith, size_pos (get_or t i 0)))))

  heads_all : Spaced (length t) 0 (device_heads t)
  unfolding device_heads
  heads_all = heads_spaced (length t) 0 (omega arith)

  group_bounds : (p : ℕ) (b : Bounds) → Some b ≡ group_at t p → (b.start + 4 ≤ b.end) × (b.end ≤ length t)
  unfolding group_at
  group_bounds p b e = go (dec_lt p (length (device_heads t)))
    where
      go : Dec (p < length (device_heads t)) → (b.start + 4 ≤ b.end) × (b.end ≤ length t)
      go (yes h) =
          let x = spaced_at heads_all p h in
          let y : Some b ≡ Some (record { start = get_or (device_heads t) p 0; end = get_or (device_heads t) (suc p) (length t) }) = e ∙ simp (lt-ltb p (length (device_heads t)) h) in
          let l : b.start ≡ get_or (device_heads t) p 0 = cc in
          let r : b.end ≡ get_or (device_heads t) (suc p) (length t) = cc in
          (omega arith, omega arith)
      go (no h) =
          let y : Some b ≡ None = e ∙ simp (le-ltb p (length (device_heads t)) (omega arith)) in
          absurd cc

-- a place that is had, or that there is none
pub place_by : (g : Option Bounds) → outcome (ok_or g refusal.Missing) ≡ bounds_by g
unfolding bounds_by
place_by (Some b) = refl
place_by None = refl

module _ (t : List ℕ) (p : ℕ) where
  -- a group that is had starts and ends inside the words, its head's four words between
  pub place_bounds : (b : Bounds) → value b ≡ group_place t p → (b.start + 4 ≤ b.end) × (b.end ≤ length t)
  unfolding group_place bounds_by bind
  place_bounds b e = first (check_of t) e
    where
      second : (g : Option Bounds) → g ≡ group_at t p → value b ≡ bounds_by g → (b.start + 4 ≤ b.end) × (b.end ≤ length t)
      second (Some x) f e' =
          let l : b ≡ x = cc in
          group_bounds t p b (ap (λ (y : Bounds). Some y) l ∙ f)
      second None f e' = absurd (let z : ◌≡◌ {A = ℕ} 0 1 = cc in omega arith)

      first : (o : Outcome Unit) → value b ≡ bind o (λ ok. bounds_by (group_at t p)) → (b.start + 4 ≤ b.end) × (b.end ≤ length t)
      first (value u) e' = second (group_at t p) refl e'
      first (refused n vs) e' = absurd (let z : ◌≡◌ {A = ℕ} 0 1 = cc in omega arith)

  -- of an answer: its bounds, and the words
  module _ (r : Result Bounds Refusal) (e : outcome r ≡ group_place t p) where
    pub stand_bounds : (b : Bounds) → r ≡ Ok b → (b.start + 4 ≤ b.end) × (b.end ≤ length t)
    stand_bounds b f = place_bounds b (ap outcome (sym f) ∙ e)

    pub words_had : (b : Bounds) → r ≡ Ok b → take (b.end - b.start) (drop b.start t) ≡ group_words t p
    unfolding group_words words_by
    words_had b f = ap (words_by t) (ap outcome (sym f) ∙ e)

    pub words_none : (q : Refusal) → r ≡ Err q → [] ≡ group_words t p
    unfolding group_words words_by
    words_none q f = let x = numbered Bounds q in ap (words_by t) (sym x.2 ∙ ap outcome (sym f) ∙ e)

-- whether an answer is a refusal
unfoldable pub is_refused : {A : Type 0} → Outcome A → Bool
is_refused (refused n vs) = true
is_refused (value a) = false

-- the part is empty exactly where the place is refused
pub empty_exactly : (t : List ℕ) (p : ℕ) → (group_words t p ≡ [] → is_refused (group_place t p) ≡ true) × (is_refused (group_place t p) ≡ true → group_words t p ≡ [])
unfolding group_words words_by is_refused
empty_exactly t p = go (group_place t p) refl
  where
    go : (o : Outcome Bounds) → o ≡ group_place t p → (words_by t o ≡ [] → is_refused o ≡ true) × (is_refused o ≡ true → words_by t o ≡ [])
    go (refused n vs) e = (λ h. refl, λ h. refl)
    go (value b) e = (λ h. absurd (omega (arith, place_bounds t p b e, ap length h, length-take (b.end - b.start) (drop b.start t), length-drop b.start t)), λ h. absurd (false≢true h))
