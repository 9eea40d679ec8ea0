-- Laws of the rules: the words of good_name, and the loop of check. Assumes nothing.
use Prim.Native.Nat.{ℕ, suc, ◌+◌, ◌-◌, ◌*◌, ◌≤◌, ◌<◌}
use Rattle.std.specs.Prelude.{◌/◌, ◌%◌, ◌^◌}
use mathlib.Core.Path.{◌≡◌, refl, sym, ap, ◌∙◌}
use mathlib.Core.List.{List, [], ◌∷◌}
use mathlib.Core.Bool.{Bool, true, false, cond, false≢true, ◌&&◌}
use native.Mathlib.Omega.{arith}
use native.Mathlib.Nat.{div-one, sub-zero}
use lib.Dec.{eqb}
use lib.ListN.{length}
use borrow.Author.Tests.{eqb-true}
use Rattle.refusal.specs.Outcome.{refused, value}
use Rattle.layout.specs.Layout.{word, kind, byte_at, name_words, size_of, heads}
use Rattle.layout.proofs.Laws.{Rest, rest_all, rest_next, rest_end}
use Rattle.description.specs.Work.{good_word}
use Rattle.description.specs.Rules.{good_byte, good_bytes, good_name, good_register, good_group, first_bad}

-- byte j of a name is byte i of its word k
byte_in : (t : List ℕ) (p k i j : ℕ) → j ≡ 4 * k + i → i < 4 → byte_at t p j ≡ word t (p + k) / 256 ^ i % 256
unfolding byte_at
byte_in t p k i j e h =
    let d : j / 4 ≡ k = omega (arith, e, h) in
    let m : j % 4 ≡ i = omega (arith, e, h) in
    rw (d, m) refl

four_first : (a b c d e : Bool) → (a && (b && (c && (d && e)))) ≡ (a && b && c && d && e)
four_first true true true d e = refl
four_first true true false d e = refl
four_first true false c d e = refl
four_first false b c d e = refl

-- four bytes of a name are one word
word_bytes : (t : List ℕ) (p n k r : ℕ) → good_bytes t p n (4 * k) (suc (suc (suc (suc r)))) ≡ (good_word n (4 * k) (word t (p + k)) && good_bytes t p n (4 * k + 4) r)
unfolding good_bytes good_word
word_bytes t p n k r =
    let w = word t (p + k) in
    let e2 : 4 * k + 1 + 1 ≡ 4 * k + 2 = omega arith in
    let e3 : 4 * k + 2 + 1 ≡ 4 * k + 3 = omega arith in
    let e4 : 4 * k + 3 + 1 ≡ 4 * k + 4 = omega arith in
    let b0 : byte_at t p (4 * k) ≡ w % 256 = byte_in t p k 0 (4 * k) (omega arith) (omega arith) ∙ rw div-one refl in
    let b1 : byte_at t p (4 * k + 1) ≡ w / 256 % 256 = byte_in t p k 1 (4 * k + 1) refl (omega arith) in
    let b2 : byte_at t p (4 * k + 2) ≡ w / 65536 % 256 = byte_in t p k 2 (4 * k + 2) refl (omega arith) in
    let b3 : byte_at t p (4 * k + 3) ≡ w / 16777216 % 256 = byte_in t p k 3 (4 * k + 3) refl (omega arith) in
    rw (e2, e3, e4, b0, b1, b2, b3) (four_first (good_byte n (4 * k) (w % 256)) (good_byte n (4 * k + 1) (w / 256 % 256)) (good_byte n (4 * k + 2) (w / 65536 % 256)) (good_byte n (4 * k + 3) (w / 16777216 % 256)) (good_bytes t p n (4 * k + 4) r))

-- the words of a name of n bytes from word k on
abbrev pub words_from : List ℕ → ℕ → ℕ → ℕ → Bool
words_from t p n k = good_bytes t p n (4 * k) (4 * (name_words n - k))

module _ (t : List ℕ) (p n k : ℕ) (h : k < name_words n) where
  next_word : words_from t p n k ≡ (good_word n (4 * k) (word t (p + k)) && words_from t p n (k + 1))
  next_word =
      let r = 4 * (name_words n - (k + 1)) in
      let e : 4 * (name_words n - k) ≡ suc (suc (suc (suc r))) = omega (arith, h) in
      let f : 4 * k + 4 ≡ 4 * (k + 1) = omega arith in
      ap (λ m. good_bytes t p n (4 * k) m) e ∙ word_bytes t p n k r ∙ ap (λ j. good_word n (4 * k) (word t (p + k)) && good_bytes t p n j r) f

  pub word_bad : good_word n (4 * k) (word t (p + k)) ≡ false → words_from t p n k ≡ false
  word_bad e = next_word ∙ ap (λ b. b && words_from t p n (k + 1)) e

  pub word_on : good_word n (4 * k) (word t (p + k)) ≡ true → words_from t p n k ≡ words_from t p n (k + 1)
  word_on e = next_word ∙ ap (λ b. b && words_from t p n (k + 1)) e

pub words_all : (t : List ℕ) (p n : ℕ) → good_name t p n ≡ words_from t p n 0
unfolding good_name
words_all t p n = ap (λ m. good_bytes t p n 0 (4 * m)) (sym (sub-zero (name_words n)))

pub words_end : (t : List ℕ) (p n k : ℕ) → name_words n ≤ k → words_from t p n k ≡ true
unfolding good_bytes
words_end t p n k h =
    let e : 4 * (name_words n - k) ≡ 0 = omega (arith, h) in
    ap (λ m. good_bytes t p n (4 * k) m) e

-- the loop of check, over what is left of the heads
abbrev pub Checking : List ℕ → ℕ → Type 0
Checking t i = (r : List ℕ) × Rest t i r × (first_bad (good_group t) (heads t) ≡ first_bad (good_group t) r)

bad_here : (g : ℕ → Bool) (p : ℕ) (ps : List ℕ) → g p ≡ false → first_bad g (p ∷ ps) ≡ refused 3 (p ∷ [])
unfolding first_bad
bad_here g p ps e = rw e refl

bad_later : (g : ℕ → Bool) (p : ℕ) (ps : List ℕ) → g p ≡ true → first_bad g (p ∷ ps) ≡ first_bad g ps
unfolding first_bad
bad_later g p ps e = rw e refl

bad_none : (g : ℕ → Bool) → first_bad g [] ≡ value tt
unfolding first_bad
bad_none g = refl

module _ (t : List ℕ) (i : ℕ) (h : Checking t i) where
  to : (r : List ℕ) → h.0 ≡ r → first_bad (good_group t) (heads t) ≡ first_bad (good_group t) r
  to r e = h.2 ∙ ap (λ (z : List ℕ). first_bad (good_group t) z) e

  pub check_bad : i < length t → good_group t i ≡ false → first_bad (good_group t) (heads t) ≡ refused 3 (i ∷ [])
  check_bad l e = let n = rest_next t i h.0 h.1 l in to _ n.here ∙ bad_here (good_group t) i _ e

  pub check_more : i < length t → good_group t i ≡ true → (s : ℕ) → s ≡ size_of (word t i) → Checking t (i + s)
  check_more l e s q =
      let n = rest_next t i h.0 h.1 l in
      rw q (n.left, n.then, to _ n.here ∙ bad_later (good_group t) i _ e)

  pub check_end : length t ≤ i → first_bad (good_group t) (heads t) ≡ value tt
  check_end l = to _ (rest_end t i h.0 h.1 l) ∙ bad_none (good_group t)

-- where none is bad, the first is good and none of the others is bad
pub good_front : (g : ℕ → Bool) (i : ℕ) (r : List ℕ) → first_bad g (i ∷ r) ≡ value tt → (g i ≡ true) × (first_bad g r ≡ value tt)
unfolding first_bad
good_front g i r e = go (g i) e
  where
    go : (x : Bool) → cond x (first_bad g r) (refused 3 (i ∷ [])) ≡ value tt → (x ≡ true) × (first_bad g r ≡ value tt)
    go true h = (refl, h)
    go false h = let z : ◌≡◌ {A = ℕ} 0 1 = cc in absurd (omega arith)

-- why a field needs no more than a place above 0: the first group of a list that is well formed is a register
not_field : (t : List ℕ) → good_group t 0 ≡ true → kind (word t 0) ≡ 1
unfolding good_group
not_field t e = go (eqb (kind (word t 0)) 1) (eqb (kind (word t 0)) 2) refl e
  where
    go : (x y : Bool) → eqb (kind (word t 0)) 1 ≡ x → cond x (good_register t 0) (cond y false false) ≡ true → kind (word t 0) ≡ 1
    go true y k h = eqb-true _ _ k
    go false true k h = absurd (false≢true h)
    go false false k h = absurd (false≢true h)

pub first_is_register : (t : List ℕ) → first_bad (good_group t) (heads t) ≡ value tt → 0 < length t → kind (word t 0) ≡ 1
first_is_register t a l =
    let n = rest_next t 0 (heads t) (rest_all t) l in
    not_field t (good_front (good_group t) 0 n.left (ap (λ (z : List ℕ). first_bad (good_group t) z) (sym n.here) ∙ a)).0
