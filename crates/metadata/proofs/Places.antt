-- Laws of places: which description stands at a place, and what the words there then are. Assumes nothing.
use Prim.Native.Nat.{ℕ, zero, suc, ◌+◌, ◌/◌, ◌%◌, ◌≤◌, ◌<◌}
use mathlib.Core.Path.{◌≡◌, refl, sym, ap, ◌∙◌, subst}
use mathlib.Core.List.{List, [], ◌∷◌, map}
use mathlib.Core.Bool.{Bool, true, false, cond, ◌&&◌, false≢true}
use Rattle.std.specs.Prelude.{Option, None, Some}
use native.Mathlib.Omega.{arith}
use native.Mathlib.Decide.{ℕ_discrete}
use lib.Dec.{ltb, leb}
use lib.ListN.{length}
use borrow.Author.Tests.{eq-eqb, ne_eqb, ltb-true, leb-true}
use Rattle.refusal.specs.Outcome.{refused, value}
use Rattle.layout.specs.Layout.{word, size_of, heads_from, heads, keep, is_register, registers}
use Rattle.layout.specs.Description.{Description, described, descriptions_of}
use Rattle.description.specs.Rules.{max_words, good_name, whole, good_head, good_register, good_group, first_bad, check_of}
use Rattle.description.proofs.Laws.{good_front}
use Rattle.layout.proofs.Laws.{Rest, rest_all, rest_next, size_pos}
use Rattle.metadata.specs.Calls.{at}
use Rattle.metadata.specs.Work.{standing}

-- the description at a place, among the registers of some head places
abbrev pub among : List ℕ → ℕ → List ℕ → Option Description
among t p r = at p (map (described t) (keep (is_register t) r))

pub among_nil : (t : List ℕ) (p : ℕ) → among t p [] ≡ None
unfolding keep at
among_nil t p = refl

pub among_other : (t : List ℕ) (p i : ℕ) (r : List ℕ) → (i ≡ p → ⊥) → among t p (i ∷ r) ≡ among t p r
unfolding keep at described
among_other t p i r n = go (is_register t i)
  where
    go : (b : Bool) → at p (map (described t) (cond b (i ∷ keep (is_register t) r) (keep (is_register t) r))) ≡ among t p r
    go true = simp (ne_eqb i p n)
    go false = refl

among_here : (t : List ℕ) (p : ℕ) (r : List ℕ) → is_register t p ≡ true → among t p (p ∷ r) ≡ standing true t p
unfolding keep at standing described
among_here t p r e = rw e (simp (eq-eqb p p refl))

among_none : (t : List ℕ) (p : ℕ) (r : List ℕ) → is_register t p ≡ false → among t p (p ∷ r) ≡ among t p r
unfolding keep
among_none t p r e = rw e refl

among_past : (t : List ℕ) (p n i : ℕ) → p < i → among t p (heads_from size_of t i n) ≡ None
unfolding heads_from
among_past t p zero i l = among_nil t p
among_past t p (suc n) i l = go (ltb i (length t)) (among_past t p n (i + size_of (word t i)) (omega arith))
  where
    go : (b : Bool) → among t p (heads_from size_of t (i + size_of (word t i)) n) ≡ None → among t p (cond b (i ∷ heads_from size_of t (i + size_of (word t i)) n) []) ≡ None
    go true e = among_other t p i _ (λ q. omega arith) ∙ e
    go false e = among_nil t p

past : (t : List ℕ) (p i : ℕ) (r : List ℕ) → Rest t i r → p < i → among t p r ≡ None
past t p i r h l = ap (λ z. among t p z) h.is ∙ among_past t p h.most i l

-- the loop of stands_at
abbrev pub Seeking : List ℕ → ℕ → ℕ → Type 0
Seeking t p i = (r : List ℕ) × Rest t i r × (at p (descriptions_of t) ≡ among t p r)

pub at_heads : (t : List ℕ) (p : ℕ) → at p (descriptions_of t) ≡ among t p (heads t)
unfolding descriptions_of registers
at_heads t p = refl

pub seek_all : (t : List ℕ) (p : ℕ) → Seeking t p 0
seek_all t p = (heads t, rest_all t, at_heads t p)

no_standing : (t : List ℕ) (p : ℕ) → None ≡ standing false t p
unfolding standing
no_standing t p = refl

module _ (t : List ℕ) (p i : ℕ) (h : Seeking t p i) where
  pub seek_more : i < p → p < length t → (s : ℕ) → s ≡ size_of (word t i) → Seeking t p (i + s)
  seek_more l m s q =
      let n = rest_next t i h.0 h.1 (omega arith) in
      rw q (n.left, n.then, h.2 ∙ ap (λ z. among t p z) n.here ∙ among_other t p i _ (λ e. omega arith))

  pub seek_past : p < i → at p (descriptions_of t) ≡ standing false t p
  seek_past l = h.2 ∙ past t p i h.0 h.1 l ∙ no_standing t p

  module _ (e : i ≡ p) (m : p < length t) where
    pub seek_here : is_register t p ≡ true → at p (descriptions_of t) ≡ standing true t p
    seek_here k =
        let n = rest_next t p h.0 (subst (λ z. Rest t z h.0) e h.1) m in
        h.2 ∙ ap (λ z. among t p z) n.here ∙ among_here t p _ k

    pub seek_other : is_register t p ≡ false → at p (descriptions_of t) ≡ standing false t p
    seek_other k =
        let n = rest_next t p h.0 (subst (λ z. Rest t z h.0) e h.1) m in
        h.2 ∙ ap (λ z. among t p z) n.here ∙ among_none t p n.left k ∙ past t p _ n.left n.then (omega (arith, size_pos (word t p))) ∙ no_standing t p

among_short : (t : List ℕ) (p n i : ℕ) → length t ≤ p → among t p (heads_from size_of t i n) ≡ None
unfolding heads_from
among_short t p zero i l = among_nil t p
among_short t p (suc n) i l = go (ltb i (length t)) refl (among_short t p n (i + size_of (word t i)) l)
  where
    go : (b : Bool) → ltb i (length t) ≡ b → among t p (heads_from size_of t (i + size_of (word t i)) n) ≡ None
        → among t p (cond b (i ∷ heads_from size_of t (i + size_of (word t i)) n) []) ≡ None
    go true q e = among_other t p i _ (λ z. omega (arith, ltb-true i (length t) q)) ∙ e
    go false q e = among_nil t p

pub seek_short : (t : List ℕ) (p : ℕ) → length t ≤ p → at p (descriptions_of t) ≡ standing false t p
seek_short t p l = at_heads t p ∙ among_short t p (length t) 0 l ∙ no_standing t p

-- in words that are well formed a register group is whole
pub both : (x y : Bool) → (x && y) ≡ true → (x ≡ true) × (y ≡ true)
both true y e = (refl, e)
both false y e = absurd (false≢true e)

good_among : (t : List ℕ) (g : ℕ → Bool) (p : ℕ) (d : Description) (r : List ℕ) → first_bad g r ≡ value tt → among t p r ≡ Some d → g p ≡ true
good_among t g p d [] a e = let z : ◌≡◌ {A = ℕ} 0 1 = cc (among_nil t p) in absurd (omega arith)
good_among t g p d (i ∷ r) a e = go (ℕ_discrete i p) (good_front g i r a) (good_among t g p d r)
  where
    go : Dec (i ≡ p) → (g i ≡ true) × (first_bad g r ≡ value tt) → (first_bad g r ≡ value tt → among t p r ≡ Some d → g p ≡ true) → g p ≡ true
    go (yes q) h ih = subst (λ z. g z ≡ true) q h.0
    go (no q) h ih = ih h.1 (sym (among_other t p i r q) ∙ e)

pub check_good : (t : List ℕ) → check_of t ≡ value tt → first_bad (good_group t) (heads t) ≡ value tt
unfolding check_of
check_good t a = go (ltb max_words (length t)) a
  where
    go : (b : Bool) → cond b (refused 3 (max_words ∷ [])) (first_bad (good_group t) (heads t)) ≡ value tt → first_bad (good_group t) (heads t) ≡ value tt
    go true e = let z : ◌≡◌ {A = ℕ} 0 1 = cc in absurd (omega arith)
    go false e = e

pub good_at : (t : List ℕ) (p : ℕ) → check_of t ≡ value tt → at p (descriptions_of t) ≡ standing true t p → good_group t p ≡ true
unfolding standing
good_at t p a e = good_among t (good_group t) p (described t p) (heads t) (check_good t a) (sym (at_heads t p) ∙ e)

register_among : (t : List ℕ) (p : ℕ) (d : Description) (r : List ℕ) → among t p r ≡ Some d → is_register t p ≡ true
register_among t p d [] e = let z : ◌≡◌ {A = ℕ} 0 1 = cc (among_nil t p) in absurd (omega arith)
register_among t p d (i ∷ r) e = go (ℕ_discrete i p) (is_register t p) refl (register_among t p d r)
  where
    go : Dec (i ≡ p) → (b : Bool) → is_register t p ≡ b → (among t p r ≡ Some d → is_register t p ≡ true) → is_register t p ≡ true
    go (yes q) true k ih = k
    go (yes q) false k ih = ih (sym (among_none t p r k) ∙ ap (λ z. among t p (z ∷ r)) (sym q) ∙ e)
    go (no q) b k ih = ih (sym (among_other t p i r q) ∙ e)

pub register_at_lem : (t : List ℕ) (p : ℕ) → at p (descriptions_of t) ≡ standing true t p → is_register t p ≡ true
unfolding standing
register_at_lem t p e = register_among t p (described t p) (heads t) (sym (at_heads t p) ∙ e)

whole_register : (t : List ℕ) (p : ℕ) → is_register t p ≡ true → good_group t p ≡ true → p + size_of (word t p) ≤ length t
unfolding is_register good_group good_register whole
whole_register t p k g =
    let r : good_register t p ≡ true = rw k at g in
    let h = good_head (word t p) (word t (p + 1)) (word t (p + 2)) in
    let l = leb (p + size_of (word t p)) (length t) in
    leb-true _ _ (both h l (both (h && l) (good_name t (p + 3) (word t p / 65536 % 256)) r).0).1

name_size : (t : List ℕ) (p : ℕ) → is_register t p ≡ true → size_of (word t p) ≡ 3 + (word t p / 65536 % 256 + 3) / 4
unfolding is_register size_of
name_size t p k = rw k refl

-- the words of the name lie within the list
pub name_whole : (t : List ℕ) (p : ℕ) → check_of t ≡ value tt → (b : Bool) → at p (descriptions_of t) ≡ standing b t p → b ≡ true
    → (w : ℕ) → w ≡ word t p → (n : ℕ) → n ≡ (w / 65536 % 256 + 3) / 4 → p + 3 + n ≤ length t
name_whole t p a b e q w z n m =
    let s : at p (descriptions_of t) ≡ standing true t p = e ∙ ap (λ x. standing x t p) q in
    let k = register_at_lem t p s in
    let y : n ≡ (word t p / 65536 % 256 + 3) / 4 = m ∙ ap (λ x. (x / 65536 % 256 + 3) / 4) z in
    omega (arith, whole_register t p k (good_at t p a s), name_size t p k)
