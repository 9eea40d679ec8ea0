-- Laws for what is answered and written of a walk, from its number of hops. Assumes nothing.
use Prim.Native.Nat.{ℕ, ◌+◌, ◌*◌, ◌≤◌, ◌<◌}
use mathlib.Core.Path.{◌≡◌, refl, sym, ap, ◌∙◌, subst}
use mathlib.Core.Bool.{Bool, true, false, cond, true≢false}
use mathlib.Core.List.{List, [], ◌∷◌, ◌++◌, append-nil}
use Rattle.std.specs.Prelude.{Option, None, Some, Err, Ok, Result}
use native.Mathlib.Omega.{arith}
use native.Mathlib.Decide.{dec_lt}
use lib.Dec.{ltb}
use lib.ListN.{length, get_or, take, drop, set, length-map, length-set, drop_of_length-le}
use lib.Seq.{length-take-le, length_front, drop_at, drop-set-lt}
use borrow.Author.Tests.{lt-ltb, le-ltb, ltb-true}
use Rattle.refusal.specs.Outcome.{Outcome, refused, value, bind}
use Rattle.tables.specs.Rows.{EntryRow}
use Rattle.tables.specs.Packed.{entry_word}
use Rattle.tables.proofs.Laws.{device_past}
use Rattle.refusal.specs.Refusal.{refused_by, is_given, IsMet, of_walk, outcome}
use Rattle.load.specs.Loading.{valid_entries}
use Rattle.refusal.specs.declared.Refusal.{Refusal}
use Rattle.refusal.proofs.Laws.{refused_bind}
use Rattle.orbit.specs.Walk.{hops_n}
use Rattle.orbit.proofs.Orbit.{reach_start, reach_ends, reach_stops, ends_within}
use Rattle.fabric.specs.Fabric.{leads}
use Rattle.fabric.proofs.Laws.{leads_missing}
use Rattle.walk.specs.Walking.{turn_by, walk_on, path_of}
use Rattle.walk.specs.Rule.{settled, walk_from, in_room}
use Rattle.walk.specs.Tables.{Leaving, leaves, leaving_of, leaving_by, tally_outcome, hops_by, Tallied}
use Rattle.path.specs.Words.{hops_words, path_words, words_needed, with_path, output_by}
use Rattle.path.specs.Work.{walk_in, so_far, HopsPut}
use Rattle.path.specs.Put.{Put, WalkPut}
use Rattle.walk.proofs.Leading.{there_below}
use Rattle.walk.proofs.Laws.{walk_ends, ranked, hopped, sound, rule}
use Rattle.path.proofs.Writing.{refused_as_lem, length_path_words}
use Rattle.refusal.specs.Refusal.{outcome, is_given, IsMet, of_walk, refused_by}
use Rattle.refusal.specs.declared.Refusal.TheVariants as refusal
use Rattle.walk.specs.Tables.{walked_to}
use Rattle.walk.specs.declared.Walked.{Walked}
use Rattle.tables.specs.declared.Stand.{Stand}
use Rattle.tables.specs.declared.Tables.{Tables}
use Rattle.tables.specs.Tables.{Sized, Tabled, rows_of}
use Rattle.refusal.specs.declared.WalkError.{WalkError}
use mathlib.Core.Logic.{inl, inr}

-- ---- the start of a path

-- no hop leads anywhere from a device that isn't there
leads_far : (tables : Tables) (p o : ℕ) → length tables.devices.now ≤ p → leads (rows_of tables) p o ≡ refused 14 []
unfolding rows_of
leads_far tables p o l = sym (leads_missing (rows_of tables) p o (device_past 0 tables.devices.now p l))

module _ (tables : Tables) (s : Stand) (hs : List EntryRow) (e : walk_from (rows_of tables) s ≡ value (Some hs)) where
  pub start_there : s.place < length tables.devices.now
  unfolding settled path_of hops_n walk_on turn_by
  start_there = go (dec_lt s.place (length tables.devices.now)) ((walk_on (rows_of tables)).hop s) refl
    where
      go : Dec (s.place < length tables.devices.now) → (o : Option EntryRow) → (walk_on (rows_of tables)).hop s ≡ o → s.place < length tables.devices.now
      go (yes l) o f = l
      go (no l) None f = absurd (
          let w = reach_stops (walk_on (rows_of tables)) s (reach_start (walk_on (rows_of tables)) s) f in
          let v : value (Some hs) ≡ value None = sym e ∙ walk_ends (rows_of tables) s w.0 ∙ ap (settled []) w.1 in
          let z : ◌≡◌ {A = ℕ} 0 1 = cc in
          omega arith)
      go (no l) (Some h) f = absurd (
          let w = reach_ends (walk_on (rows_of tables)) s (reach_start (walk_on (rows_of tables)) s) f (ap (turn_by h) (leads_far tables s.place h.out_adapter (omega arith))) in
          let v : value (Some hs) ≡ refused 14 [] = sym e ∙ walk_ends (rows_of tables) s w.0 ∙ ap (settled _) w.1 in
          let z : ◌≡◌ {A = ℕ} 0 1 = cc in
          omega arith)

-- ---- the head word, after the hops

module _ (tables : Tables) (s : Stand) (name : ℕ) (out : List ℕ) where
  -- no room for a head word
  pub walk_no_room : length out < 1 → WalkPut tables s name out 0 out
  walk_no_room l = record { answers = λ z t hs e f. absurd (no_room hs f); writes = λ z t hs e f. absurd (no_room hs f); fits = omega arith; tail = refl; long = refl }
    where
      no_room : (hs : List EntryRow) → words_needed name hs ≤ length out → ⊥
      no_room hs f = omega (arith, length_path_words name hs)

  -- a path has no more hops than there are entries
  few : Sized tables → (hs : List EntryRow) (e : walk_from (rows_of tables) s ≡ value (Some hs)) → (hopped (rows_of tables) s hs e).count ≤ 4096
  unfolding rows_of
  few z hs e = omega (arith, ends_within (walk_on (rows_of tables)) (valid_entries (rows_of tables)) (ranked (rows_of tables)) s (hopped (rows_of tables) s hs e).ends, length-map tables.entries.now entry_word, z.entries)

  pub walk_put : (n w : ℕ) (mid : List ℕ) → (n < 65536 → w ≡ 9 * 268435456 + name * 65536 + n) → HopsPut tables s out n mid → WalkPut tables s name out (1 + 2 * n) (set mid 0 w)
  unfolding so_far with_path words_needed path_words walk_in
  walk_put n w mid head p = record {
    answers = λ z t hs e f. let y = all z t hs e f in omega (arith, y.0, length_path_words name hs);
    writes = λ z t hs e f.
        let y = all z t hs e f in
        ap (λ l. set l 0 w) y.1
        ∙ ap (λ j. (j ∷ hops_words hs) ++ drop (1 + 2 * length hs) out) (head (omega (arith, y.2)) ∙ ap (λ j. 9 * 268435456 + name * 65536 + j) y.0)
        ∙ ap (λ j. ((9 * 268435456 + name * 65536 + length hs) ∷ hops_words hs) ++ drop j out) (sym (length_path_words name hs));
    fits = p.fits;
    tail = drop-set-lt (1 + 2 * n) mid 0 w (omega arith) ∙ p.tail;
    long = length-set mid 0 w ∙ p.long;
  }
    where
      all : Sized tables → Tabled tables → (hs : List EntryRow) → walk_from (rows_of tables) s ≡ value (Some hs) → words_needed name hs ≤ length out → (n ≡ length hs) × (mid ≡ so_far (get_or out 0 0) hs out) × (n ≤ 4096)
      all z t hs e f =
          let g = hopped (rows_of tables) s hs e in
          let y = p.words z t (start_there tables s hs e) g.count g.ends (omega (arith, g.long, length_path_words name hs)) in
          (omega (arith, y.0, g.long), y.1 ∙ ap (λ l. so_far (get_or out 0 0) l out) (ap (hops_n (walk_on (rows_of tables)) s) y.0 ∙ g.hops), omega (arith, y.0, few z hs e))

-- ---- the walk's outcome, by what its number of hops says

leaves_refused : (o : Outcome (Option (List EntryRow))) (z : Refusal) → refused_by z ≡ bind o (λ y. value (leaves y)) → (k : ℕ) × (vs : List ℕ) × (o ≡ refused k vs) × (refused_by {A = Option ℕ} z ≡ refused k vs)
unfolding bind
leaves_refused (refused k vs) z e = (k, vs, refl, sym (refused_bind z (λ y. refused 0 [])) ∙ ap (λ w. bind w (λ y. refused 0 [])) e)
leaves_refused (value y) z e = absurd (let w = refused_as_lem (value (leaves y)) z e in let v = w.2 in let u : ◌≡◌ {A = ℕ} 0 1 = cc in omega arith)

leaves_none : (o : Outcome (Option (List EntryRow))) → value None ≡ bind o (λ y. value (leaves y)) → (o ≡ value (Some []) → ⊥) → o ≡ value None
unfolding bind leaves leaving_of
leaves_none (refused k vs) e n = absurd (let z : ◌≡◌ {A = ℕ} 0 1 = cc in omega arith)
leaves_none (value None) e n = refl
leaves_none (value (Some [])) e n = absurd (n refl)
leaves_none (value (Some (h ∷ hs))) e n = absurd (let z : ◌≡◌ {A = ℕ} 0 1 = cc in omega arith)

leaves_some : (o : Outcome (Option (List EntryRow))) (l : Leaving) → value (Some l) ≡ bind o (λ y. value (leaves y)) → (hs : List EntryRow) × (o ≡ value (Some hs)) × (l.hops ≡ length hs)
unfolding bind leaves leaving_of leaving_by
leaves_some (refused k vs) l e = absurd (let z : ◌≡◌ {A = ℕ} 0 1 = cc in omega arith)
leaves_some (value None) l e = absurd (let z : ◌≡◌ {A = ℕ} 0 1 = cc in omega arith)
leaves_some (value (Some [])) l e = absurd (let z : ◌≡◌ {A = ℕ} 0 1 = cc in omega arith)
leaves_some (value (Some (h ∷ hs))) l e = (h ∷ hs, refl, cc)

-- a path has a hop, and no more than there are entries
pub hops_few : (tables : Tables) (s : Stand) (r : Result (Option Walked) WalkError) → Sized tables → Tallied tables s r → (n q a h : ℕ) → r ≡ walked_to n q a h → (0 < n) × (n ≤ length tables.entries.now) × (n ≤ 4096)
unfolding hops_by is_given
hops_few tables s r z f n q a h e =
    let k : n ≤ length tables.entries.now = subst (λ w. hops_by w ≤ length tables.entries.now) e f.few in
    (ltb-true 0 n (sym (subst (λ w. is_given w ≡ ltb 0 (hops_by w)) e f.one)), k, omega (arith, z.entries))

-- ---- what is answered

none_err : {m : Refusal} → ◌≡◌ {A = Result (Option ℕ) Refusal} (Ok None) (Err m) → ⊥
none_err e = absurd (let z : ◌≡◌ {A = ℕ} 0 1 = cc in omega arith)

err_same : {a m : Refusal} → ◌≡◌ {A = Result (Option ℕ) Refusal} (Err a) (Err m) → m ≡ a
err_same e = cc

-- a number of hops is answered only where there is room
wrote_path : (name n : ℕ) (hs : List EntryRow) (out out' : List ℕ) → value (Some n) ≡ bind (value (Some hs)) (in_room (words_needed name) (length out)) → out' ≡ output_by name (value (Some hs)) out → out' ≡ with_path name hs out
unfolding bind in_room output_by
wrote_path name n hs out out' e f = go (ltb (length out) (words_needed name hs)) e f
  where
    go : (b : Bool) → value (Some n) ≡ cond b (refused 2 (words_needed name hs ∷ [])) (value (Some (length hs))) → out' ≡ cond b out (with_path name hs out) → out' ≡ with_path name hs out
    go true p q = absurd (let z : ◌≡◌ {A = ℕ} 0 1 = cc in omega arith)
    go false p q = q

module _ (tables : Tables) (s : Stand) (name : ℕ) (out : List ℕ) where
  abbrev whole_walk : Outcome (Option (List EntryRow))
  whole_walk = walk_from (rows_of tables) s

  -- an answer and an output that follow the walk keep demand 3
  put_by : (a : Result (Option ℕ) Refusal) (out' : List ℕ)
      → (Sized tables → Tabled tables → s.place < 65536 → (outcome a ≡ bind whole_walk (in_room (words_needed name) (length out))) × (out' ≡ output_by name whole_walk out))
      → (65535 < s.place → a ≡ (Ok None)) → ((Sized tables → ⊥) → a ≡ (Ok None)) → (is_given a ≡ false → out' ≡ out) → ((m : Refusal) → a ≡ Err m → IsMet m)
      → ((n : ℕ) → a ≡ Ok (Some n) → (0 < n) × (1 + 2 * n ≤ length out) × (drop (1 + 2 * n) out' ≡ drop (1 + 2 * n) out)) → length out' ≡ length out → Put tables s name out a out'
  unfolding rows_of
  put_by a out' follows past larger kept met path long = record {
    answers = λ z t l. (follows z t l).0;
    writes = λ z t l. (follows z t l).1;
    past = past;
    larger = larger;
    met = met;
    kept = kept;
    fits = λ n e. let w = path n e in (w.0, w.1);
    tail = λ n e. (path n e).2;
    long = long;
    walks = λ z t d q.
        let g = sound tables s d q in
        let w = follows z t (omega (arith, t.others.devices, there_below tables s.place g.start)) in
        rule (rows_of tables) s (words_needed name) (length out) (λ hs. out' ≡ with_path name hs out) (outcome a) g w.0
        (λ hs n e v. wrote_path name n hs out out' (sym v ∙ w.0 ∙ ap (λ y. bind y (in_room (words_needed name) (length out))) e) (w.1 ∙ ap (λ y. output_by name y out) e));
  }

  -- no path, and nothing is written
  put_none : (a : Result (Option ℕ) Refusal) → is_given a ≡ false → (Sized tables → Tabled tables → s.place < 65536 → (outcome a ≡ bind whole_walk (in_room (words_needed name) (length out))) × (out ≡ output_by name whole_walk out))
      → (65535 < s.place → a ≡ (Ok None)) → ((Sized tables → ⊥) → a ≡ (Ok None)) → ((m : Refusal) → a ≡ Err m → IsMet m) → Put tables s name out a out
  unfolding is_given
  put_none a b follows past larger met = put_by a out follows past larger (λ p. refl) met (λ n e. absurd (true≢false (sym (ap is_given e) ∙ b))) refl

  -- tables larger than a survey's
  pub put_larger : (Sized tables → ⊥) → Put tables s name out (Ok None) out
  unfolding is_given
  put_larger n = put_none (Ok None) refl (λ z t l. absurd (n z)) (λ l. refl) (λ z. refl) (λ m e. absurd (none_err e))

  -- the outcome put in
  by_outcome : (a : Result (Option ℕ) Refusal) (out' : List ℕ) (o : Outcome (Option (List EntryRow))) → whole_walk ≡ o → outcome a ≡ bind o (in_room (words_needed name) (length out)) → out' ≡ output_by name o out
      → (outcome a ≡ bind whole_walk (in_room (words_needed name) (length out))) × (out' ≡ output_by name whole_walk out)
  by_outcome a out' o e p q = (p ∙ ap (λ z. bind z (in_room (words_needed name) (length out))) (sym e), q ∙ ap (λ z. output_by name z out) (sym e))

  module _ (r : Result (Option Walked) WalkError) (z : Sized tables) (f : Tallied tables s r) where
    pub put_refused : (x : WalkError) → r ≡ Err x → Put tables s name out (Err (of_walk x)) out
    unfolding output_by bind tally_outcome is_given IsMet
    put_refused x e = put_none (Err (of_walk x)) refl
        (λ y t l. let w = leaves_refused whole_walk (of_walk x) (sym (ap tally_outcome e) ∙ f.answers t l) in by_outcome (Err (of_walk x)) out (refused w.0 w.1) w.2 w.3 refl)
        (λ l. absurd (let p = f.past l in let y : ◌≡◌ {A = ℕ} 0 1 = cc in omega arith))
        (λ n. absurd (n z))
        (λ m g. inl (x, err_same g))

    pub put_absent : r ≡ (Ok None) → Put tables s name out (Ok None) out
    unfolding output_by bind in_room tally_outcome is_given
    put_absent e = put_none (Ok None) refl
        (λ y t l. by_outcome (Ok None) out (value None) (leaves_none whole_walk (sym (ap tally_outcome e) ∙ f.answers t l) (λ q. let h = hopped (rows_of tables) s [] q in omega (arith, h.one, h.long))) refl refl)
        (λ l. refl)
        (λ n. refl)
        (λ m g. absurd (none_err g))

    module _ (n q a h : ℕ) (e : r ≡ walked_to n q a h) where
      -- on tables as loading leaves them the number of hops is the path's
      hops_are : Tabled tables → s.place < 65536 → (hs : List EntryRow) × (whole_walk ≡ value (Some hs)) × (n ≡ length hs)
      unfolding tally_outcome
      hops_are t l = leaves_some whole_walk (record { hops = n; place = q; adapter = a; hop_id = h }) (sym (ap tally_outcome e) ∙ f.answers t l)

      no_path_lem : 65535 < s.place → ⊥
      no_path_lem l = let p = f.past l in let y : ◌≡◌ {A = ℕ} 0 1 = cc in omega arith

      pub put_short : length out < 1 + 2 * n → Put tables s name out (Err (refusal.Short (1 + 2 * n))) out
      unfolding output_by bind in_room is_given IsMet
      put_short k = put_none _ refl
          (λ y t l.
          let w = hops_are t l in
          let m : 1 + 2 * n ≡ words_needed name w.0 = omega (arith, w.2, length_path_words name w.0) in
          let b : ltb (length out) (words_needed name w.0) ≡ true = lt-ltb (length out) (words_needed name w.0) (omega arith) in
          by_outcome (Err (refusal.Short (1 + 2 * n))) out (value (Some w.0)) w.1 (ap (λ x. refused 2 (x ∷ [])) m ∙ ap (λ x. cond x (refused 2 (words_needed name w.0 ∷ [])) (value (Some (length w.0)))) (sym b)) (ap (λ x. cond x out (with_path name w.0 out)) (sym b)))
          (λ l. absurd (no_path_lem l))
          (λ x. absurd (x z))
          (λ m g. inr (1 + 2 * n, err_same g))

      pub put_whole : (S : List ℕ) (i : ℕ) → 1 + 2 * n ≤ length out → length S ≡ length (take (1 + 2 * n) out) → WalkPut tables s name (take (1 + 2 * n) out) i S → Put tables s name out (Ok (Some n)) (S ++ drop (1 + 2 * n) out)
      unfolding output_by bind in_room is_given with_path
      put_whole S i k m v = let few = hops_few tables s r z f n q a h e in put_by _ (S ++ drop (1 + 2 * n) out)
          (λ y t l.
          let w = hops_are t l in
          let j : 1 + 2 * n ≡ words_needed name w.0 = omega (arith, w.2, length_path_words name w.0) in
          let b : ltb (length out) (words_needed name w.0) ≡ false = le-ltb (length out) (words_needed name w.0) (omega arith) in
          let room : words_needed name w.0 ≤ length (take (1 + 2 * n) out) = omega (arith, length-take-le (1 + 2 * n) out k) in
          let p : S ≡ path_words name w.0 = v.writes z t w.0 w.1 room ∙ ap (λ x. path_words name w.0 ++ x) (drop_of_length-le (take (1 + 2 * n) out) {i = words_needed name w.0} (omega (arith, length-take-le (1 + 2 * n) out k))) ∙ append-nil (path_words name w.0) in
          by_outcome (Ok (Some n)) (S ++ drop (1 + 2 * n) out) (value (Some w.0)) w.1 (ap (λ x. value (Some x)) w.2 ∙ ap (λ x. cond x (refused 2 (words_needed name w.0 ∷ [])) (value (Some (length w.0)))) (sym b))
          (ap (λ x. x ++ drop (1 + 2 * n) out) p ∙ ap (λ x. path_words name w.0 ++ drop x out) j ∙ ap (λ x. cond x out (with_path name w.0 out)) (sym b)))
          (λ l. absurd (no_path_lem l))
          (λ x. absurd (x z))
          (λ p. absurd (true≢false p))
          (λ m g. absurd (let y : ◌≡◌ {A = ℕ} 0 1 = cc in omega arith))
          (λ j x. subst (λ i. (0 < i) × (1 + 2 * i ≤ length out) × (drop (1 + 2 * i) (S ++ drop (1 + 2 * n) out) ≡ drop (1 + 2 * i) out)) (let y : n ≡ j = cc in y) (few.0, k, drop_at S (drop (1 + 2 * n) out) (1 + 2 * n) (m ∙ length-take-le (1 + 2 * n) out k)))
          (length_front out S (1 + 2 * n) m)
