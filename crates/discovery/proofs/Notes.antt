-- Laws of notes: the first of a path that leaves by a ring, and what is said of its path. Assumes nothing.
use Prim.Native.Nat.{ℕ, suc, ◌+◌, ◌<◌}
use mathlib.Core.Path.{◌≡◌, refl, sym, ap, ◌∙◌, subst}
use mathlib.Core.Bool.{Bool, true, false, cond}
use mathlib.Core.List.{List, [], ◌∷◌}
use Rattle.std.specs.Prelude.{Option, Ok, Err, Result, None, Some}
use Rattle.std.specs.List.{position, position_from}
use Rattle.std.proofs.lemmas.Iterator.Adapters.{position_from-zero}
use native.Mathlib.Omega.{arith}
use lib.ListN.{get_or, take}
use Rattle.refusal.specs.Outcome.{Outcome, value, bind}
use Rattle.tables.specs.Rows.{Rows}
use Rattle.refusal.proofs.Laws.{walk_bind}
use Rattle.walk.specs.Tables.{Leaving, tally_outcome, Tallied, hops_by as hops_of_walk}
use Rattle.receive.specs.Receive.{at}
use Rattle.receive.specs.Tables.{Said, received_outcome, path_of, hops_by, note_stand, said_from, walk_said, by_notes, is_path, Foretells, Receives, Searches}
use Rattle.receive.specs.declared.Received.{Received}
use Rattle.receive.specs.declared.Received.TheVariants as answer
use Rattle.discovery.specs.Work.{Known, Told, under, NotePath}
use Rattle.walk.specs.Tables.{walked_to}
use Rattle.walk.specs.declared.Walked.{Walked}
use Rattle.tables.specs.declared.Stand.{Stand}
use Rattle.tables.specs.declared.Tables.{Tables}
use Rattle.tables.specs.Tables.{Tabled, rows_of}
use Rattle.refusal.specs.declared.WalkError.{WalkError}

-- ---- the first note under a ring

module _ (x : Rows) (ring : ℕ) (rest : Outcome Said) where
  none_from : (q : ℕ) (notes : List ℕ) → position_from (under ring) q notes ≡ None → by_notes x ring notes rest ≡ rest
  unfolding by_notes
  none_from q [] e = refl
  none_from q (w ∷ ws) e = go (under ring w) e (none_from (q + 1) ws)
    where
      go : (b : Bool) → cond b (Some q) (position_from (under ring) (q + 1) ws) ≡ None → (position_from (under ring) (q + 1) ws ≡ None → by_notes x ring ws rest ≡ rest) → cond b (walk_said x ring (note_stand w)) (by_notes x ring ws rest) ≡ rest
      go true f ih = absurd (let y : ◌≡◌ {A = ℕ} 0 1 = cc in omega arith)
      go false f ih = ih f

  first_from : (q i : ℕ) (notes : List ℕ) → position_from (under ring) q notes ≡ Some i → (k : ℕ) × (i ≡ q + k) × (by_notes x ring notes rest ≡ walk_said x ring (note_stand (get_or notes k 0)))
  unfolding by_notes
  first_from q i [] e = absurd (let y : ◌≡◌ {A = ℕ} 0 1 = cc in omega arith)
  first_from q i (w ∷ ws) e = go (under ring w) e (first_from (q + 1) i ws)
    where
      go : (b : Bool) → cond b (Some q) (position_from (under ring) (q + 1) ws) ≡ Some i → (position_from (under ring) (q + 1) ws ≡ Some i → (k : ℕ) × (i ≡ q + 1 + k) × (by_notes x ring ws rest ≡ walk_said x ring (note_stand (get_or ws k 0))))
          → (k : ℕ) × (i ≡ q + k) × (cond b (walk_said x ring (note_stand w)) (by_notes x ring ws rest) ≡ walk_said x ring (note_stand (get_or (w ∷ ws) k 0)))
      go true f ih = let y : q ≡ i = cc in (0, omega (arith, y), refl)
      go false f ih = let v = ih f in (suc v.0, omega (arith, v.1), v.2)

  none_there : (notes : List ℕ) → position (under ring) notes ≡ None → by_notes x ring notes rest ≡ rest
  none_there notes e = none_from 0 notes (sym (position_from-zero (under ring) notes) ∙ e)

  first_there : (i : ℕ) (notes : List ℕ) → position (under ring) notes ≡ Some i → by_notes x ring notes rest ≡ walk_said x ring (note_stand (get_or notes i 0))
  first_there i notes e =
      let v = first_from 0 i notes (sym (position_from-zero (under ring) notes) ∙ e) in
      v.2 ∙ ap (λ (k : ℕ). walk_said x ring (note_stand (get_or notes k 0))) (let y : v.0 ≡ i = omega (arith, v.1) in y)

-- ---- a note's path

module _ (tables : Tables) (note p a h : ℕ) (w : Result (Option Walked) WalkError) (f : Tallied tables (record { place = p; adapter = a; hop_id = h }) w) (s : note_stand note ≡ at p a h) (l : p < 65536) where
  -- what a walk comes to is what is said of the note's
  tells : (v : Result (Option Walked) WalkError) → w ≡ v → (ring : ℕ) → Tabled tables → bind (tally_outcome v) (λ o. value (said_from ring (at p a h) o)) ≡ walk_said (rows_of tables) ring (note_stand note)
  unfolding walk_said at
  tells v e ring t =
      ap (λ (y : Result (Option Walked) WalkError). bind (tally_outcome y) (λ o. value (said_from ring (at p a h) o))) (sym e)
      ∙ ap (λ (o : Outcome (Option Leaving)). bind o (λ y. value (said_from ring (at p a h) y))) (f.answers t l)
      ∙ ap (λ (z : Stand). walk_said (rows_of tables) ring z) (sym s)

  pub path_refused : (r : WalkError) → w ≡ Err r → (ring : ℕ) → NotePath tables ring note (Err r)
  unfolding received_outcome hops_by tally_outcome
  path_refused r e ring = record { says = λ t. sym (walk_bind r (λ o. value (said_from ring (at p a h) o))) ∙ tells (Err r) e ring t; few = omega arith }

  pub path_absent : w ≡ (Ok None) → (ring : ℕ) → NotePath tables ring note (Ok answer.Nothing)
  unfolding received_outcome hops_by tally_outcome bind said_from
  path_absent e ring = record { says = tells (Ok None) e ring; few = omega arith }

  pub path_there : (k q b o : ℕ) → w ≡ walked_to k q b o → (ring : ℕ) → NotePath tables ring note (Ok (answer.Path (path_of (at p a h) k q b)))
  unfolding received_outcome hops_by tally_outcome bind said_from hops_of_walk
  path_there k q b o e ring = record { says = tells (walked_to k q b o) e ring; few = omega (arith, f.few, ap hops_of_walk e) }

-- ---- what the notes tell

module _ (tables : Tables) (notes : List ℕ) (ring : ℕ) (last : Result Received WalkError) (t : Told tables (Some notes) last) where
  pub told_last : position (under ring) notes ≡ None → Receives tables ring last
  told_last n = record { answers = λ y. sym ((t.tells notes refl).tells y ring ∙ none_there (rows_of tables) ring (received_outcome ring last) notes n); few = t.few }

  pub told_path : (i : ℕ) → position (under ring) notes ≡ Some i → (r : Result Received WalkError) → NotePath tables ring (get_or notes i 0) r → Receives tables ring r
  told_path i f r n = record { answers = λ y. n.says y ∙ sym ((t.tells notes refl).tells y ring ∙ first_there (rows_of tables) ring (received_outcome ring last) i notes f); few = n.few }

-- notes that are known tell of all rings
pub told_known : (tables : Tables) (ring room : ℕ) (found : Result Received WalkError) (noted : ℕ) (notes : List ℕ) → Searches room tables ring found noted notes → (o : Option (List ℕ)) → Known room found noted notes o → Told tables o found
told_known tables ring room found noted notes f o k = record {
  tells = λ ns e. let m = k.known ns e in subst (λ l. Foretells tables l found) (sym m.0) (f.tells m.2 m.1);
  few = f.comes.few;
}

pub known_few : (room : ℕ) (found : Result Received WalkError) (noted : ℕ) (notes : List ℕ) → noted < room → is_path found ≡ false → Known room found noted notes (Some (take noted notes))
known_few room found noted notes l n = record { known = λ ns e. (let y : take noted notes ≡ ns = cc in sym y, l, n) }

pub none_known : (room : ℕ) (found : Result Received WalkError) (noted : ℕ) (notes : List ℕ) → Known room found noted notes None
none_known room found noted notes = record { known = λ ns e. absurd (let y : ◌≡◌ {A = ℕ} 0 1 = cc in omega arith) }
