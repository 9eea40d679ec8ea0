-- The call agrees with the core's call for the same walk: the same hops, and its records are those of the core's words. Assumes nothing.
use Prim.Native.Nat.{ℕ, ◌≤◌, ◌<◌}
use native.Mathlib.Omega.{arith}
use mathlib.Core.Path.{◌≡◌, refl, sym, ap, ◌∙◌}
use mathlib.Core.Bool.{Bool, false, cond}
use mathlib.Core.List.{List, [], ◌∷◌}
use Rattle.std.specs.Prelude.{Option, None, Some, Ok, Result}
use lib.Dec.{ltb}
use lib.ListN.{length}
use borrow.Author.Tests.{le-ltb, lt-ltb, ltb-false}
use Rattle.refusal.specs.Outcome.{Outcome, refused, value, bind}
use Rattle.tables.specs.Rows.{EntryRow}
use Rattle.walks.specs.Calls.{single, path_answer, walk_answer, WalkDone}
use Rattle.walk.specs.Rule.{in_room}
use Rattle.path.specs.Words.{words_needed}
use Rattle.hops.specs.Records.{records_needed, with_records, records_by}
use Rattle.hops.specs.Calls.{hops_answer, HopsDone}
use Rattle.hops.specs.Records.{filled}
use Rattle.hops.specs.declared.Hop.{Hop}
use Rattle.hops.proofs.Laws.{room_some, path_told, path_filled}
use Rattle.refusal.specs.Refusal.{outcome}
use Rattle.refusal.specs.declared.Refusal.{Refusal}
use Rattle.tables.specs.declared.Stand.{Stand}

module _ (t v : List ℕ) (s : Stand) (out : List ℕ) (r : Result (Option ℕ) Refusal) (out' : List ℕ) (w : WalkDone t v s out r out') (old : List Hop) (a : Result (Option ℕ) Refusal) (old' : List Hop) (d : HopsDone t v s old a old') where
  module _ (n m : ℕ) (g : r ≡ Ok (Some n)) (f : a ≡ Ok (Some m)) where
    -- the path that is answered, with room for its records
    told : (hs : List EntryRow) × (path_answer t v s ≡ value (Some hs)) × (length hs ≡ m) × (ltb (length old) (records_needed hs) ≡ false)
    unfolding hops_answer
    told = room_some records_needed (length old) m (path_answer t v s) (sym d.answers ∙ ap outcome f)

    same_path : told.0 ≡ (path_told t v s out r out' w n g).0
    same_path = let e = sym told.1 ∙ (path_told t v s out r out' w n g).1 in cc

    pub same_number : m ≡ n
    same_number = sym told.2 ∙ ap length same_path ∙ (path_told t v s out r out' w n g).2

    records_told : old' ≡ with_records told.0 old
    unfolding records_by
    records_told = d.writes ∙ ap (λ (o : Outcome (Option (List EntryRow))). records_by o old) told.1 ∙ ap (λ (b : Bool). cond b old (with_records told.0 old)) told.3

    -- the first n records are those of the core's words, and the others as they were
    pub same_records : old' ≡ filled out' n old
    unfolding records_needed
    same_records =
        records_told ∙ ap (λ (hs : List EntryRow). with_records hs old) same_path
        ∙ sym (path_filled t v s out r out' w n g old (omega (arith, told.2, same_number, ltb-false (length old) (length told.0) told.3)))

  -- the same answer in every case, where neither list is short of room for a path
  pub same_answer : ((hs : List EntryRow) → path_answer t v s ≡ value (Some hs) → (words_needed single hs ≤ length out) × (records_needed hs ≤ length old)) → outcome a ≡ outcome r
  unfolding hops_answer walk_answer bind in_room
  same_answer room = d.answers ∙ by (path_answer t v s) room ∙ sym w.answers
    where
      by : (o : Outcome (Option (List EntryRow))) → ((hs : List EntryRow) → o ≡ value (Some hs) → (words_needed single hs ≤ length out) × (records_needed hs ≤ length old)) → bind o (in_room records_needed (length old)) ≡ bind o (in_room (words_needed single) (length out))
      by (refused k vs) h = refl
      by (value None) h = refl
      by (value (Some hs)) h = simp (le-ltb (length old) (records_needed hs) (h hs refl).1, le-ltb (length out) (words_needed single hs) (h hs refl).0)

  -- with too few records 2 gives the hops of the path that the core answers
  pub same_need : (n : ℕ) → r ≡ Ok (Some n) → length old < n → outcome a ≡ refused 2 (n ∷ [])
  unfolding hops_answer bind in_room records_needed
  same_need n g h =
      let p = path_told t v s out r out' w n g in
      d.answers ∙ ap (λ o. bind o (in_room records_needed (length old))) p.1 ∙ simp (lt-ltb (length old) (length p.0) (omega (arith, p.2))) (ap (λ k. refused 2 (k ∷ [])) p.2)
