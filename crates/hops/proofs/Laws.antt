-- Laws on the call: its rule, and what it comes to by what the core's walk answers. Assumes nothing.
use Prim.Native.Nat.{ℕ, ◌≤◌, ◌<◌}
use native.Mathlib.Omega.{arith}
use mathlib.Core.Path.{◌≡◌, refl, sym, ap, ◌∙◌, subst}
use mathlib.Core.Bool.{Bool, true, false, cond, true≢false}
use mathlib.Core.List.{List, [], ◌∷◌}
use Rattle.std.specs.Prelude.{Option, None, Some, Err, Ok, Result}
use lib.Dec.{ltb}
use lib.ListN.{length}
use borrow.Author.Tests.{lt-ltb, le-ltb}
use Rattle.refusal.specs.Outcome.{Outcome, refused, value, bind}
use Rattle.adapter.specs.Adapter.{AdapterRow}
use Rattle.tables.specs.Rows.{EntryRow, Rows}
use Rattle.load.specs.Loading.{loaded}
use Rattle.load.specs.Answers.{asked_adapter}
use Rattle.refusal.specs.Refusal.{refused_by, is_given}
use Rattle.refusal.specs.declared.Refusal.{Refusal}
use Rattle.orbit.specs.Walk.{hops_n}
use Rattle.walk.specs.Walking.{walk_on}
use Rattle.walk.specs.Rule.{walk_from, in_room, PathRule, WalkRule}
use Rattle.walk.proofs.Laws.{walk_ends, Hopped, hopped, path_rule}
use Rattle.path.specs.Words.{words_needed, with_path, output_by}
use Rattle.path.proofs.Writing.{length_path_words, refused_as_lem}
use Rattle.walks.specs.Calls.{single, path_answer, walk_answer, WalkDone}
use Rattle.hops.specs.Records.{records_needed, with_records, records_by}
use Rattle.hops.specs.Calls.{hops_answer, HopsDone}
use Rattle.hops.specs.Records.{filled}
use Rattle.hops.specs.declared.Hop.{Hop}
use Rattle.hops.proofs.Words.{Path, walk_path, filled_path}
use Rattle.refusal.specs.Refusal.{outcome, is_given}
use Rattle.refusal.specs.declared.Refusal.TheVariants as refusal
use Rattle.tables.specs.declared.Stand.{Stand}

-- ---- what the room makes of a walk

-- a number of hops answers a path; 13 answers 13 alone
pub room_some : (need : List EntryRow → ℕ) (room n : ℕ) (o : Outcome (Option (List EntryRow))) → bind o (in_room need room) ≡ value (Some n) → (hs : List EntryRow) × (o ≡ value (Some hs)) × (length hs ≡ n) × (ltb room (need hs) ≡ false)
unfolding bind in_room
room_some need room n (refused k vs) q = absurd (let z : ◌≡◌ {A = ℕ} 0 1 = cc in omega arith)
room_some need room n (value None) q = absurd (let z : ◌≡◌ {A = ℕ} 0 1 = cc in omega arith)
room_some need room n (value (Some hs)) q = go (ltb room (need hs)) refl q
  where
    go : (b : Bool) → ltb room (need hs) ≡ b → cond b (refused 2 (need hs ∷ [])) (value (Some (length hs))) ≡ value (Some n) → (ks : List EntryRow) × (value (Some hs) ≡ value (Some ks)) × (length ks ≡ n) × (ltb room (need ks) ≡ false)
    go true e p = absurd (let z : ◌≡◌ {A = ℕ} 0 1 = cc in omega arith)
    go false e p = (hs, refl, cc, e)

room_ring : (need : List EntryRow → ℕ) (room : ℕ) (o : Outcome (Option (List EntryRow))) → bind o (in_room need room) ≡ refused 13 [] → o ≡ refused 13 []
unfolding bind in_room
room_ring need room (refused k vs) q = cc
room_ring need room (value None) q = absurd (let z : ◌≡◌ {A = ℕ} 0 1 = cc in omega arith)
room_ring need room (value (Some hs)) q = absurd (go (ltb room (need hs)) q)
  where
    go : (b : Bool) → cond b (refused 2 (need hs ∷ [])) (value (Some (length hs))) ≡ refused 13 [] → ⊥
    go true p = let z : ◌≡◌ {A = ℕ} 2 13 = cc in omega arith
    go false p = let z : ◌≡◌ {A = ℕ} 0 1 = cc in omega arith

room_none : (need : List EntryRow → ℕ) (room : ℕ) (o : Outcome (Option (List EntryRow))) → bind o (in_room need room) ≡ value None → o ≡ value None
unfolding bind in_room
room_none need room (refused k vs) q = absurd (let z : ◌≡◌ {A = ℕ} 0 1 = cc in omega arith)
room_none need room (value None) q = refl
room_none need room (value (Some hs)) q = absurd (go (ltb room (need hs)) q)
  where
    go : (b : Bool) → cond b (refused 2 (need hs ∷ [])) (value (Some (length hs))) ≡ value None → ⊥
    go true p = let z : ◌≡◌ {A = ℕ} 0 1 = cc in omega arith
    go false p = let z : ◌≡◌ {A = ℕ} 0 1 = cc in omega arith

-- where there is room for every path, what is refused was refused before
room_refused : (need : List EntryRow → ℕ) (room k : ℕ) (vs : List ℕ) (o : Outcome (Option (List EntryRow))) → ((hs : List EntryRow) → o ≡ value (Some hs) → ltb room (need hs) ≡ false) → bind o (in_room need room) ≡ refused k vs → o ≡ refused k vs
unfolding bind in_room
room_refused need room k vs (refused n us) h q = cc
room_refused need room k vs (value None) h q = absurd (let z : ◌≡◌ {A = ℕ} 0 1 = cc in omega arith)
room_refused need room k vs (value (Some hs)) h q = absurd (go (ltb room (need hs)) (h hs refl) q)
  where
    go : (b : Bool) → b ≡ false → cond b (refused 2 (need hs ∷ [])) (value (Some (length hs))) ≡ refused k vs → ⊥
    go true e p = true≢false e
    go false e p = let z : ◌≡◌ {A = ℕ} 0 1 = cc in omega arith

-- ---- records by their number

in_records : (room : ℕ) (hs : List EntryRow) → length hs ≤ room → bind (value (Some hs)) (in_room records_needed room) ≡ value (Some (length hs))
unfolding bind in_room records_needed
in_records room hs l = ap (λ (b : Bool). cond b (refused 2 (length hs ∷ [])) (value (Some (length hs)))) (le-ltb room (length hs) l)

past_records : (room : ℕ) (hs : List EntryRow) → room < length hs → bind (value (Some hs)) (in_room records_needed room) ≡ refused 2 (length hs ∷ [])
unfolding bind in_room records_needed
past_records room hs l = ap (λ (b : Bool). cond b (refused 2 (length hs ∷ [])) (value (Some (length hs)))) (lt-ltb room (length hs) l)

by_records : (hs : List EntryRow) (old : List Hop) → length hs ≤ length old → records_by (value (Some hs)) old ≡ with_records hs old
unfolding records_by records_needed
by_records hs old l = ap (λ (b : Bool). cond b old (with_records hs old)) (le-ltb (length old) (length hs) l)

by_none : (hs : List EntryRow) (old : List Hop) → length old < length hs → records_by (value (Some hs)) old ≡ old
unfolding records_by records_needed
by_none hs old l = ap (λ (b : Bool). cond b old (with_records hs old)) (lt-ltb (length old) (length hs) l)

-- ---- the rule of a single walk, with another room

module _ (x : Rows) (s : Stand) (need need' : List EntryRow → ℕ) (room room' : ℕ) (Wrote Wrote' : List EntryRow → Type 0) (o o' : Outcome (Option ℕ)) where
  pub another_room : WalkRule x s need room Wrote o → o ≡ bind (walk_from x s) (in_room need room) → o' ≡ bind (walk_from x s) (in_room need' room')
      → ((hs : List EntryRow) (n : ℕ) → walk_from x s ≡ value (Some hs) → o' ≡ value (Some n) → Wrote' hs) → WalkRule x s need' room' Wrote' o'
  unfolding bind
  another_room w q q' wrote = record {
    bounded = w.bounded;
    ends = λ n e. q' ∙ ap (λ (z : Outcome (Option (List EntryRow))). bind z (in_room need' room')) (walk_ends x s e);
    faults = w.faults;
    path = λ n p. to_path n p (room_some need' room' n (walk_from x s) (sym q' ∙ p));
    never = (λ p. w.never.0 (there p), λ n. back (w.never.1 n));
    again = (λ p. w.again.0 (there p), λ n. back (w.again.1 n));
  }
    where
      there : o' ≡ refused 13 [] → o ≡ refused 13 []
      there p = q ∙ ap (λ (z : Outcome (Option (List EntryRow))). bind z (in_room need room)) (room_ring need' room' (walk_from x s) (sym q' ∙ p))

      back : o ≡ refused 13 [] → o' ≡ refused 13 []
      back p = q' ∙ ap (λ (z : Outcome (Option (List EntryRow))). bind z (in_room need' room')) (room_ring need room (walk_from x s) (sym q ∙ p))

      to_path : (n : ℕ) → o' ≡ value (Some n) → (hs : List EntryRow) × (walk_from x s ≡ value (Some hs)) × (length hs ≡ n) × (ltb room' (need' hs) ≡ false) → PathRule x s n × Wrote' (hops_n (walk_on x) s n)
      to_path n p (hs, f, l, z) = subst (λ (m : ℕ). PathRule x s m × Wrote' (hops_n (walk_on x) s m)) (sym h.long ∙ l) (path_rule x s h.count h.one h.ends, subst Wrote' (sym h.hops) (wrote hs n f p))
        where
          h : Hopped x s hs
          h = hopped x s hs f

-- ---- the call, from the core's

-- what a walk comes to on an accepted survey
answered : (t v : List ℕ) (s : Stand) (x : Rows) (y : AdapterRow) → loaded t v ≡ value x → asked_adapter x s.place s.adapter ≡ value y → path_answer t v s ≡ walk_from x s
unfolding path_answer bind
answered t v s x y l a = ap (λ (o : Outcome Rows). bind o (λ z. bind (asked_adapter z s.place s.adapter) (λ u. walk_from z s))) l ∙ ap (λ (o : Outcome AdapterRow). bind o (λ u. walk_from x s)) a

-- a path that is answered is that of a walk
path_of_lem : (t v : List ℕ) (s : Stand) (hs : List EntryRow) → path_answer t v s ≡ value (Some hs) → Path hs
unfolding path_answer bind
path_of_lem t v s hs q = go (loaded t v) refl q
  where
    walked : (x : Rows) → loaded t v ≡ value x → (o : Outcome AdapterRow) → bind o (λ u. walk_from x s) ≡ value (Some hs) → Path hs
    walked x l (refused n vs) p = absurd (let z : ◌≡◌ {A = ℕ} 0 1 = cc in omega arith)
    walked x l (value y) p = walk_path t v x s hs l p

    go : (o : Outcome Rows) → loaded t v ≡ o → bind o (λ x. bind (asked_adapter x s.place s.adapter) (λ u. walk_from x s)) ≡ value (Some hs) → Path hs
    go (refused n vs) l p = absurd (let z : ◌≡◌ {A = ℕ} 0 1 = cc in omega arith)
    go (value x) l p = walked x l (asked_adapter x s.place s.adapter) p

module _ (t v : List ℕ) (s : Stand) (out : List ℕ) (r : Result (Option ℕ) Refusal) (out' : List ℕ) (w : WalkDone t v s out r out') where
  -- the rule follows from the equations
  done : (records : List Hop) (a : Result (Option ℕ) Refusal) (records' : List Hop) → outcome a ≡ hops_answer t v s (length records) → records' ≡ records_by (path_answer t v s) records → (is_given a ≡ false → records' ≡ records) → HopsDone t v s records a records'
  unfolding hops_answer walk_answer records_by
  done records a records' q e k = record {
    answers = q;
    writes = e;
    kept = k;
    walks = λ x y l b.
        let same = answered t v s x y l b in
        another_room x s (words_needed single) records_needed (length out) (length records) _ _ (outcome r) (outcome a) (w.walks x y l b)
        (w.answers ∙ ap (λ (o : Outcome (Option (List EntryRow))). bind o (in_room (words_needed single) (length out))) same)
        (q ∙ ap (λ (o : Outcome (Option (List EntryRow))). bind o (in_room records_needed (length records))) same)
        (λ hs n f p. wrote hs n (same ∙ f) p);
  }
    where
      wrote : (hs : List EntryRow) (n : ℕ) → path_answer t v s ≡ value (Some hs) → outcome a ≡ value (Some n) → records' ≡ with_records hs records
      wrote hs n f p =
          let z = room_some records_needed (length records) n (path_answer t v s) (sym q ∙ p) in
          let same : z.0 ≡ hs = cc z.1 in
          e ∙ ap (λ (o : Outcome (Option (List EntryRow))). records_by o records) f ∙ ap (λ (b : Bool). cond b records (with_records hs records)) (subst (λ (ks : List EntryRow). ltb (length records) (records_needed ks) ≡ false) same z.3)

  -- a path: so does the call answer, or it is short of records
  module _ (n : ℕ) (g : r ≡ Ok (Some n)) where
    pub path_told : (hs : List EntryRow) × (path_answer t v s ≡ value (Some hs)) × (length hs ≡ n) × (ltb (length out) (words_needed single hs) ≡ false)
    unfolding walk_answer
    path_told = room_some (words_needed single) (length out) n (path_answer t v s) (sym w.answers ∙ ap outcome g)

    words_told : out' ≡ with_path single path_told.0 out
    unfolding output_by
    words_told = w.writes ∙ ap (λ (o : Outcome (Option (List EntryRow))). output_by single o out) path_told.1 ∙ ap (λ (b : Bool). cond b out (with_path single path_told.0 out)) path_told.3

    pub path_filled : (records : List Hop) → n ≤ length records → filled out' n records ≡ with_records path_told.0 records
    path_filled records k =
        ap (λ (ws : List ℕ). filled ws n records) words_told ∙ ap (λ (m : ℕ). filled (with_path single path_told.0 out) m records) (sym path_told.2)
        ∙ filled_path single path_told.0 out records (path_of_lem t v s path_told.0 path_told.1).fit (omega (arith, path_told.2))

    pub done_path : (records : List Hop) → n ≤ length records → HopsDone t v s records r (filled out' n records)
    unfolding hops_answer is_given
    done_path records l = subst (λ (a : Result (Option ℕ) Refusal). HopsDone t v s records a (filled out' n records)) (sym g) (done records (Ok (Some n)) (filled out' n records)
        (ap (λ (m : ℕ). value (Some m)) (sym path_told.2) ∙ sym (in_records (length records) path_told.0 (omega (arith, path_told.2))) ∙ sym (ap (λ (o : Outcome (Option (List EntryRow))). bind o (in_room records_needed (length records))) path_told.1))
        (path_filled records l ∙ sym (by_records path_told.0 records (omega (arith, path_told.2))) ∙ sym (ap (λ (o : Outcome (Option (List EntryRow))). records_by o records) path_told.1))
        (λ q. absurd (true≢false q)))

    pub done_short : (records : List Hop) → length records < n → HopsDone t v s records (Err (refusal.Short n)) records
    unfolding hops_answer
    done_short records l = done records (Err (refusal.Short n)) records
        (ap (λ (m : ℕ). refused 2 (m ∷ [])) (sym path_told.2) ∙ sym (past_records (length records) path_told.0 (omega (arith, path_told.2))) ∙ sym (ap (λ (o : Outcome (Option (List EntryRow))). bind o (in_room records_needed (length records))) path_told.1))
        (sym (by_none path_told.0 records (omega (arith, path_told.2))) ∙ sym (ap (λ (o : Outcome (Option (List EntryRow))). records_by o records) path_told.1))
        (λ q. refl)

  -- what is no path: so the call answers too, for the core has words for every path
  absent : r ≡ Ok None → path_answer t v s ≡ value None
  unfolding walk_answer
  absent g = room_none (words_needed single) (length out) (path_answer t v s) (sym w.answers ∙ ap outcome g)

  gone : length out ≡ 8193 → (k : ℕ) (vs : List ℕ) → outcome r ≡ refused k vs → path_answer t v s ≡ refused k vs
  unfolding walk_answer
  gone big k vs f = room_refused (words_needed single) (length out) k vs (path_answer t v s)
      (λ hs p. le-ltb (length out) (words_needed single hs) (omega (arith, length_path_words single hs, (path_of_lem t v s hs p).few)))
      (sym w.answers ∙ f)

  no_path : (o : Outcome (Option (List EntryRow))) (a : Outcome (Option ℕ)) (records : List Hop) → path_answer t v s ≡ o → bind o (in_room records_needed (length records)) ≡ a → outcome r ≡ a → records_by o records ≡ records → HopsDone t v s records r records
  unfolding hops_answer
  no_path o a records q b f k = done records r records
      (f ∙ sym b ∙ sym (ap (λ (z : Outcome (Option (List EntryRow))). bind z (in_room records_needed (length records))) q))
      (sym k ∙ sym (ap (λ (z : Outcome (Option (List EntryRow))). records_by z records) q))
      (λ z. refl)

  pub done_absent : (records : List Hop) → r ≡ Ok None → HopsDone t v s records r records
  unfolding records_by bind in_room
  done_absent records g = no_path (value None) (value None) records (absent g) refl (ap outcome g) refl

  pub done_refused : length out ≡ 8193 → (records : List Hop) (x : Refusal) → r ≡ Err x → HopsDone t v s records r records
  unfolding records_by bind in_room
  done_refused big records x g = let z = refused_as_lem (refused_by x) x refl in
      no_path (refused z.0 z.1) (refused z.0 z.1) records (gone big z.0 z.1 (ap outcome g ∙ z.2)) refl (ap outcome g ∙ z.2) refl
