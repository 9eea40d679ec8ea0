-- Walks over a small table, as the definitions compute them.
use Prim.Native.Nat.{ℕ}
use mathlib.Core.Path.{◌≡◌, refl, sym, ◌∙◌}
use mathlib.Core.Bool.{Bool, true, false, cond}
use mathlib.Core.List.{List, [], ◌∷◌}
use Rattle.std.specs.Prelude.{Option, None, Some}
use native.Mathlib.Omega.{arith}
use lib.ListN.{length}
use lib.Dec.{eqb}
use borrow.Author.Tests.{eqb-true}
use Rattle.orbit.specs.Walk.{Turn.on, Turn.ends, Walk, Spot.stand, Spot.ended, Spot.stopped, going, found, arrive, turned, made, onward, walk_n, hop_at, hops_n, Never}
use Rattle.orbit.proofs.Orbit.{has, Ranked, table_ranked, never_at}

-- an entry leads from a state to another; 9 is an end
record Entry : Type 0 where
  from : ℕ
  to : ℕ

abbrev entry : ℕ → ℕ → Entry
entry a b = record { from = a; to = b }

abbrev table : List Entry
table = entry 1 2 ∷ entry 2 3 ∷ entry 3 9 ∷ entry 5 6 ∷ entry 6 5 ∷ entry 7 8 ∷ entry 1 1 ∷ []

abbrev at : ℕ → Entry → Bool
at x e = eqb e.from x

abbrev first : ℕ → List Entry → Option Entry
first x [] = None
first x (e ∷ es) = cond (at x e) (Some e) (first x es)

abbrev walk : Walk ℕ Entry ℕ
walk = record { hop = λ x. first x table; next = λ x e. cond (eqb e.to 9) (ends 9) (on e.to) }

-- three hops to the end
three : (walk_n walk 1 2 ≡ stand 3) × (walk_n walk 1 3 ≡ ended 9) × (walk_n walk 1 7 ≡ ended 9) × (hops_n walk 1 7 ≡ entry 1 2 ∷ entry 2 3 ∷ entry 3 9 ∷ [])
unfolding walk_n hops_n hop_at onward made turned arrive found
three = (refl, refl, refl, refl)

-- one hop to a state with no entry; no hop at all
one_and_none : (walk_n walk 7 1 ≡ stopped) × (hops_n walk 7 4 ≡ entry 7 8 ∷ []) × (walk_n walk 4 0 ≡ stopped) × (hops_n walk 4 3 ≡ [])
unfolding walk_n hops_n hop_at onward made turned arrive found
one_and_none = (refl, refl, refl, refl)

first_has : (x : ℕ) (h : Entry) (es : List Entry) → first x es ≡ Some h → has (at x) es ≡ true
unfolding has
first_has x h [] q = absurd (let z : ◌≡◌ {A = ℕ} 0 1 = cc in omega arith)
first_has x h (e ∷ es) q = go (at x e) (λ p. first_has x h es p) q
  where
    go : (b : Bool) → (first x es ≡ Some h → has (at x) es ≡ true) → cond b (Some e) (first x es) ≡ Some h → cond b true (has (at x) es) ≡ true
    go true ih p = refl
    go false ih p = ih p

ranked : Ranked walk (length table)
ranked = table_ranked walk table at (λ x y e p q. sym (eqb-true e.from x p) ∙ eqb-true e.from y q) (λ x h q. first_has x h table q)

-- 5 and 6 lead to one another
ring : Never walk 5
unfolding walk_n onward made turned arrive found going
ring = never_at walk (length table) ranked 5 7 (omega arith) refl
