-- Laws on the HopIDs of an adapter: those without an entry give nothing, and what the walk from the next one comes to. Assumes nothing.
use Prim.Native.Nat.{ℕ, zero, suc, ◌+◌, ◌-◌, ◌≤◌, ◌<◌}
use mathlib.Core.Bool.{Bool, cond}
use mathlib.Core.Path.{◌≡◌, refl, sym, ap, ◌∙◌}
use mathlib.Core.List.{List, [], ◌∷◌}
use Rattle.std.specs.Prelude.{Option, None, Some}
use native.Mathlib.Omega.{arith}
use native.Mathlib.Numerals.{add-one}
use lib.ListN.{length, get_or}
use borrow.Author.Tests.{eq-eqb, ne_eqb}
use Rattle.refusal.specs.Outcome.{Outcome, refused, value, bind}
use Rattle.tables.specs.Rows.{EntryRow, Rows, entry_in}
use Rattle.refusal.specs.Refusal.{refused_by, of_walk}
use Rattle.refusal.proofs.Laws.{walk_bind}
use Rattle.orbit.specs.Walk.{Spot.stand, found, arrive, walk_n, hops_n}
use Rattle.orbit.proofs.Orbit.{reach_start, reach_stops}
use Rattle.walk.specs.Walking.{End, walk_on, path_of}
use Rattle.walk.specs.Rule.{settled, walk_from, stand_of}
use Rattle.walk.specs.Tables.{Leaving, last_of, leaving_by, leaving_of, leaves}
use Rattle.walk.proofs.Laws.{walk_ends, hopped, path_rule}
use Rattle.path.proofs.Writing.{refused_as_lem}
use Rattle.receive.specs.Receive.{at, Receive, Receive.received, Receive.nothing, uses_ring, or_rest, among_hops, or_next}
use Rattle.receive.specs.Tables.{Said.path, said_of}
use Rattle.receive.specs.Work.{said, up_to}
use Rattle.tables.specs.declared.Stand.{Stand}
use Rattle.refusal.specs.declared.WalkError.{WalkError}

-- ---- HopIDs without an entry

-- a walk that stops where it starts
pub walk_none : (x : Rows) (s : Stand) → entry_in x.entries s.place s.adapter s.hop_id ≡ None → walk_from x s ≡ value None
unfolding walk_on settled path_of hops_n
walk_none x s e = let w = reach_stops (walk_on x) s (reach_start (walk_on x) s) e in walk_ends x s w.0 ∙ ap (settled []) w.1

module _ (x : Rows) (ring q n : ℕ) where
  hop_none : (h k : ℕ) → entry_in x.entries q n h ≡ None → among_hops x ring q n h (suc k) ≡ among_hops x ring q n (suc h) k
  unfolding among_hops bind or_rest at
  hop_none h k e = ap (λ (o : Outcome (Option (List EntryRow))). bind o (or_rest ring (among_hops x ring q n (suc h) k))) (walk_none x (at q n h) e)

  -- j of them, and k after them
  stretch : (j h k : ℕ) → ((i : ℕ) → h ≤ i → i < h + j → entry_in x.entries q n i ≡ None) → among_hops x ring q n h (j + k) ≡ among_hops x ring q n (h + j) k
  stretch zero h k g = ap (among_hops x ring q n h) (let z : 0 + k ≡ k = omega arith in z) ∙ ap (λ (z : ℕ). among_hops x ring q n z k) (let z : h ≡ h + 0 = omega arith in z)
  stretch (suc j) h k g =
      ap (among_hops x ring q n h) (let z : suc j + k ≡ suc (j + k) = omega arith in z)
      ∙ hop_none h (j + k) (g h (omega arith) (omega arith))
      ∙ stretch j (suc h) k (λ i l m. g i (omega arith) (omega arith))
      ∙ ap (λ (z : ℕ). among_hops x ring q n z k) (let z : suc h + j ≡ h + suc j = omega arith in z)

  pub leap : (h k hi : ℕ) → h ≤ k → k ≤ hi + 1 → ((i : ℕ) → h ≤ i → i < k → entry_in x.entries q n i ≡ None) → up_to x ring q n h hi ≡ up_to x ring q n k hi
  unfolding up_to
  leap h k hi l m g =
      ap (among_hops x ring q n h) (let z : hi + 1 - h ≡ (k - h) + (hi + 1 - k) = omega arith in z)
      ∙ stretch (k - h) h (hi + 1 - k) (λ i a b. g i a (omega arith))
      ∙ ap (λ (z : ℕ). among_hops x ring q n z (hi + 1 - k)) (let z : h + (k - h) ≡ k = omega arith in z)

  pub over : (h hi : ℕ) → ((i : ℕ) → h ≤ i → i ≤ hi → entry_in x.entries q n i ≡ None) → up_to x ring q n h hi ≡ value nothing
  unfolding up_to among_hops
  over h hi g =
      ap (among_hops x ring q n h) (let z : hi + 1 - h ≡ (hi + 1 - h) + 0 = omega arith in z)
      ∙ stretch (hi + 1 - h) h 0 (λ i a b. g i a (omega arith))

  -- the walk from the first of them, and then the others
  pub first_walk : (k hi : ℕ) → k ≤ hi → up_to x ring q n k hi ≡ bind (walk_from x (at q n k)) (or_rest ring (up_to x ring q n (k + 1) hi))
  unfolding up_to among_hops
  first_walk k hi l =
      ap (among_hops x ring q n k) (let z : hi + 1 - k ≡ suc (hi + 1 - (k + 1)) = omega arith in z)
      ∙ ap (λ (z : ℕ). bind (walk_from x (at q n k)) (or_rest ring (among_hops x ring q n z (hi + 1 - (k + 1))))) (sym (add-one k))

-- ---- a walk

-- a path's first hop stands where it starts
found_stand : (s y : Stand) (o : Option EntryRow) → found {E = End} s o ≡ stand y → s ≡ y
unfolding found
found_stand s y None e = absurd (let z : ◌≡◌ {A = ℕ} 0 1 = cc in omega arith)
found_stand s y (Some h) e = cc

pub first_stand : (x : Rows) (s : Stand) (h : EntryRow) (hs : List EntryRow) → walk_from x s ≡ value (Some (h ∷ hs)) → stand_of h ≡ s
unfolding walk_n arrive
first_stand x s h hs e =
    let w = hopped x s (h ∷ hs) e in
    let r = path_rule x s w.count w.one w.ends in
    ap (λ (l : List EntryRow). stand_of (get_or l 0 h)) (sym w.hops) ∙ sym (found_stand s _ _ (r.stands h 0 w.one))

module _ (ring : ℕ) (rest : Outcome Receive) where
  -- refused
  pub walk_refused : (o : Outcome (Option (List EntryRow))) (r : WalkError) (after : Outcome Receive) → refused_by (of_walk r) ≡ bind o (λ v. value (leaves v)) → refused_by (of_walk r) ≡ said (bind (bind o (or_rest ring rest)) (or_next after))
  unfolding bind
  walk_refused (refused k vs) r after e = sym (walk_bind {A = Option Leaving} r (λ v. refused 0 [])) ∙ ap (λ (z : Outcome (Option Leaving)). bind z (λ v. refused 0 [])) e
  walk_refused (value v) r after e = absurd (let w = refused_as_lem (value (leaves v)) (of_walk r) e in let y : value (leaves v) ≡ refused w.0 w.1 = w.2 in let z : ◌≡◌ {A = ℕ} 0 1 = cc in omega arith)

  -- no path
  pub walk_absent : (o : Outcome (Option (List EntryRow))) → value None ≡ bind o (λ v. value (leaves v)) → bind o (or_rest ring rest) ≡ rest
  unfolding bind or_rest uses_ring leaves leaving_of
  walk_absent (refused k vs) e = absurd (let z : ◌≡◌ {A = ℕ} 0 1 = cc in omega arith)
  walk_absent (value None) e = refl
  walk_absent (value (Some [])) e = refl
  walk_absent (value (Some (h ∷ hs))) e = absurd (let z : ◌≡◌ {A = ℕ} 0 1 = cc in omega arith)

  -- a path that leaves by another HopID than the ring, or by the ring
  pub walk_other : (o : Outcome (Option (List EntryRow))) (l : Leaving) → value (Some l) ≡ bind o (λ v. value (leaves v)) → (l.hop_id ≡ ring → ⊥) → bind o (or_rest ring rest) ≡ rest
  unfolding bind or_rest uses_ring leaves leaving_of leaving_by
  walk_other (refused k vs) l e n = absurd (let z : ◌≡◌ {A = ℕ} 0 1 = cc in omega arith)
  walk_other (value None) l e n = absurd (let z : ◌≡◌ {A = ℕ} 0 1 = cc in omega arith)
  walk_other (value (Some [])) l e n = refl
  walk_other (value (Some (h ∷ hs))) l e n =
      let g : l ≡ leaving_by (suc (length hs)) (last_of h hs) = cc in
      ap (λ (b : Bool). cond b (value (received (h ∷ hs))) rest) (ne_eqb (last_of h hs).out_hop ring (λ f. n (ap (λ (y : Leaving). y.hop_id) g ∙ f)))

  pub walk_fits : (x : Rows) (s : Stand) (l : Leaving) (after : Outcome Receive) → value (Some l) ≡ bind (walk_from x s) (λ v. value (leaves v)) → l.hop_id ≡ ring
      → value (path s l) ≡ said (bind (bind (walk_from x s) (or_rest ring rest)) (or_next after))
  unfolding bind or_rest uses_ring leaves leaving_of leaving_by or_next said_of
  walk_fits x s l after e f = go (walk_from x s) refl e
    where
      go : (o : Outcome (Option (List EntryRow))) → walk_from x s ≡ o → value (Some l) ≡ bind o (λ v. value (leaves v)) → value (path s l) ≡ said (bind (bind o (or_rest ring rest)) (or_next after))
      go (refused k vs) u g = absurd (let z : ◌≡◌ {A = ℕ} 0 1 = cc in omega arith)
      go (value None) u g = absurd (let z : ◌≡◌ {A = ℕ} 0 1 = cc in omega arith)
      go (value (Some [])) u g = absurd (let z : ◌≡◌ {A = ℕ} 0 1 = cc in omega arith)
      go (value (Some (h ∷ hs))) u g =
          let y : l ≡ leaving_by (suc (length hs)) (last_of h hs) = cc in
          ap (λ (z : Stand). value (path z l)) (sym (first_stand x s h hs u))
          ∙ ap (λ (z : Leaving). value (path (stand_of h) z)) y
          ∙ ap (λ (b : Bool). said (bind (cond b (value (received (h ∷ hs))) rest) (or_next after))) (sym (eq-eqb (last_of h hs).out_hop ring (ap (λ (z : Leaving). z.hop_id) (sym y) ∙ f)))
