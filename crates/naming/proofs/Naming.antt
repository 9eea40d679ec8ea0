-- Laws of naming: the description that names a register is the only group that is left. Assumes nothing.
use Rattle.std.specs.Prelude.{None, Some, Option}
use Prim.Native.Nat.{ℕ, ◌+◌, ◌/◌, ◌%◌, ◌≤◌, ◌<◌}
use mathlib.Core.Path.{◌≡◌, refl, sym, ap, ◌∙◌}
use mathlib.Core.List.{List, [], ◌∷◌, map}
use mathlib.Core.Bool.{Bool, true, false, cond, ◌&&◌}
use native.Mathlib.Omega.{arith}
use lib.Dec.{ltb, eqb}
use lib.ListN.{length}
use borrow.Author.Tests.{lt-ltb, le-ltb, eq-eqb, ne_eqb}
use Rattle.layout.specs.Layout.{word, has_cap, has_vs, cap_id, vs_id, listed, kinds, size_of, heads, keep, is_register, registers}
use Rattle.layout.specs.Description.{had, described, descriptions_of}
use Rattle.layout.proofs.Laws.{Rest, rest_all, rest_next, rest_end}
use Rattle.naming.specs.Naming.{is, kind_fits, cap_fits, vs_fits, fits, only, naming, place_of}
use Rattle.naming.specs.Work.{candidate}
use Rattle.naming.specs.declared.Sought.{Sought}

-- a test behind a map, and two tests
keep_map : {A B : Type 0} (f : B → Bool) (g : A → B) (xs : List A) → keep f (map g xs) ≡ map g (keep (λ x. f (g x)) xs)
unfolding keep
keep_map f g [] = refl
keep_map f g (x ∷ xs) = go (f (g x)) (keep_map f g xs)
  where
    go : (b : Bool) → keep f (map g xs) ≡ map g (keep (λ x. f (g x)) xs)
        → cond b (g x ∷ keep f (map g xs)) (keep f (map g xs)) ≡ map g (cond b (x ∷ keep (λ x. f (g x)) xs) (keep (λ x. f (g x)) xs))
    go true e = ap (λ z. g x ∷ z) e
    go false e = e

keep_keep : {A : Type 0} (f g : A → Bool) (xs : List A) → keep f (keep g xs) ≡ keep (λ x. g x && f x) xs
unfolding keep
keep_keep f g [] = refl
keep_keep f g (x ∷ xs) = go (g x) (f x) refl (keep_keep f g xs)
  where
    go : (a b : Bool) → f x ≡ b → keep f (keep g xs) ≡ keep (λ x. g x && f x) xs
        → keep f (cond a (x ∷ keep g xs) (keep g xs)) ≡ cond (a && b) (x ∷ keep (λ x. g x && f x) xs) (keep (λ x. g x && f x) xs)
    go true true q e = rw q (ap (λ z. x ∷ z) e)
    go true false q e = rw q e
    go false b q e = e

only_place : (t : List ℕ) (ps : List ℕ) → place_of (only (map (described t) ps)) ≡ only ps
unfolding only place_of described
only_place t [] = refl
only_place t (p ∷ []) = refl
only_place t (p ∷ (q ∷ ps)) = refl

-- the place of the description that names a register is that of the only group that is left
pub naming_heads : (t : List ℕ) (q : Sought) → place_of (naming q (descriptions_of t)) ≡ only (keep (candidate t q) (heads t))
unfolding naming descriptions_of registers candidate
naming_heads t q =
    ap (λ z. place_of (only z)) (keep_map (fits q) (described t) (keep (is_register t) (heads t)))
    ∙ only_place t _
    ∙ ap only (keep_keep (λ p. fits q (described t p)) (is_register t) (heads t))

keep_in : (f : ℕ → Bool) (p : ℕ) (ps : List ℕ) → f p ≡ true → keep f (p ∷ ps) ≡ p ∷ keep f ps
unfolding keep
keep_in f p ps e = rw e refl

keep_out : (f : ℕ → Bool) (p : ℕ) (ps : List ℕ) → f p ≡ false → keep f (p ∷ ps) ≡ keep f ps
unfolding keep
keep_out f p ps e = rw e refl

keep_none : (f : ℕ → Bool) → keep f [] ≡ []
unfolding keep
keep_none f = refl

only_one : (p : ℕ) → only (p ∷ []) ≡ (Some p)
unfolding only
only_one p = refl

only_none : only {A = ℕ} [] ≡ None
unfolding only
only_none = refl

only_two : (p q : ℕ) (ps : List ℕ) → only (p ∷ (q ∷ ps)) ≡ None
unfolding only
only_two p q ps = refl

-- the groups that are left: the one found so far (below n), and those among the places to come
abbrev pub after : ℕ → ℕ → List ℕ → List ℕ
after n found ps = cond (ltb found n) (found ∷ ps) ps

after_one : (n found : ℕ) (ps : List ℕ) → found < n → after n found ps ≡ found ∷ ps
after_one n found ps l = simp (lt-ltb found n l)

after_none : (n found : ℕ) (ps : List ℕ) → n ≤ found → after n found ps ≡ ps
after_none n found ps l = simp (le-ltb found n l)

-- the loop of find_group
abbrev pub Finding : List ℕ → Sought → ℕ → ℕ → Type 0
Finding t q found i = (r : List ℕ) × Rest t i r × (keep (candidate t q) (heads t) ≡ after (length t) found (keep (candidate t q) r))

pub find_all : (t : List ℕ) (q : Sought) → Finding t q (length t) 0
find_all t q = (heads t, rest_all t, sym (after_none (length t) (length t) _ (omega arith)))

module _ (t : List ℕ) (q : Sought) (found i : ℕ) (h : Finding t q found i) where
  left_at : (r ps : List ℕ) → h.0 ≡ r → keep (candidate t q) r ≡ ps → keep (candidate t q) (heads t) ≡ after (length t) found ps
  left_at r ps e k = h.2 ∙ ap (λ (z : List ℕ). after (length t) found z) (ap (λ (z : List ℕ). keep (candidate t q) z) e ∙ k)

  pub find_first : i < length t → candidate t q i ≡ true → length t ≤ found → (s f : ℕ) → s ≡ size_of (word t i) → f ≡ i → Finding t q f (i + s)
  find_first l e m s f z y =
      let n = rest_next t i h.0 h.1 l in
      let k = left_at _ _ n.here (keep_in (candidate t q) i _ e) in
      rw (z, y) (n.left, n.then, k ∙ after_none (length t) found _ m ∙ sym (after_one (length t) i _ l))

  pub find_second : i < length t → candidate t q i ≡ true → found < length t → None ≡ place_of (naming q (descriptions_of t))
  find_second l e m =
      let n = rest_next t i h.0 h.1 l in
      let k = left_at _ _ n.here (keep_in (candidate t q) i _ e) ∙ after_one (length t) found _ m in
      sym (naming_heads t q ∙ ap only k ∙ only_two found i _)

  pub find_pass : i < length t → candidate t q i ≡ false → (s f : ℕ) → s ≡ size_of (word t i) → f ≡ found → Finding t q f (i + s)
  find_pass l e s f z y =
      let n = rest_next t i h.0 h.1 l in
      rw (z, y) (n.left, n.then, left_at _ _ n.here (keep_out (candidate t q) i _ e))

  pub find_one : length t ≤ i → found < length t → (Some found) ≡ place_of (naming q (descriptions_of t))
  find_one l m =
      let k = left_at _ _ (rest_end t i h.0 h.1 l) (keep_none (candidate t q)) ∙ after_one (length t) found _ m in
      sym (naming_heads t q ∙ ap only k ∙ only_one found)

  pub find_none : length t ≤ i → length t ≤ found → None ≡ place_of (naming q (descriptions_of t))
  find_none l m =
      let k = left_at _ _ (rest_end t i h.0 h.1 l) (keep_none (candidate t q)) ∙ after_none (length t) found _ m in
      sym (naming_heads t q ∙ ap only k ∙ only_none)

-- where a cap id is wanted and one is had, it decides
pub cap_equal : (id bit cap : ℕ) (vs : Option ℕ) → (id ≡ 0 → ⊥) → bit ≡ 1 → cap_fits id (had bit cap) vs ≡ eqb cap id
unfolding cap_fits had is
cap_equal id bit cap vs n e = rw (ne_eqb id 0 n, eq-eqb bit 1 e) refl

-- what is_candidate tests, over the words that it has read
module _ (t : List ℕ) (q : Sought) (i w ids list : ℕ) (ew : w ≡ word t i) (ei : ids ≡ word t (i + 1)) (el : list ≡ word t (i + 2)) where
  pub fit_parts : (a b c d e f : Bool) → eqb (w / 268435456 % 16) 1 ≡ a → eqb (w / 67108864 % 4) q.space ≡ b → eqb (w % 65536) q.offset ≡ c
      → kind_fits q.space q.kind (had (listed list) (kinds list)) ≡ d → cap_fits q.cap (had (has_cap w) (cap_id ids)) (had (has_vs w) (vs_id ids)) ≡ e
      → vs_fits q.vs (had (has_vs w) (vs_id ids)) ≡ f → candidate t q i ≡ (a && (b && c && d && e && f))
  unfolding candidate is_register fits described
  fit_parts a b c d e f pa pb pc pd pe pf = rw (← ew, ← ei, ← el, pa, pb, pc, pd, pe, pf) refl
