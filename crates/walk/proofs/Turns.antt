-- Laws of the walk on tables: what its loop keeps from hop to hop, and what it returns. Assumes nothing.
use Prim.Native.Nat.{ℕ, suc, ◌+◌, ◌≤◌, ◌<◌}
use mathlib.Core.Path.{◌≡◌, refl, sym, ap, ◌∙◌, subst}
use mathlib.Core.List.{List, [], ◌∷◌, ◌++◌}
use Rattle.std.specs.Prelude.{Option, None, Some, Ok, Err, Result}
use native.Mathlib.Omega.{arith}
use native.Mathlib.Decide.{dec_lt}
use lib.Dec.{ltb}
use borrow.Author.Tests.{lt-ltb}
use lib.ListN.{length, length-append, length-map}
use Rattle.refusal.specs.Outcome.{Outcome, refused, value, bind}
use Rattle.refusal.specs.Refusal.{refusal_of, is_given, of_walk, refused_by}
use Rattle.refusal.specs.declared.Fault.TheVariants.{Endless}
use Rattle.tables.specs.Rows.{EntryRow, Rows}
use Rattle.tables.specs.Packed.{entry_word}
use Rattle.tables.specs.Found.{EntrySought, entry_found}
use Rattle.load.specs.Loading.{valid_entries}
use Rattle.refusal.specs.Refusal.{refused_by, is_given, of_walk, refusal_of}
use Rattle.refusal.specs.declared.WalkError.TheVariants as walk
use Rattle.refusal.proofs.Laws.{walk_bind, numbered}
use Rattle.fabric.specs.Fabric.{Way, Way.on, Way.last, Way.dropped, leads}
use Rattle.fabric.specs.Tables.{LeadsTo, next_outcome}
use Rattle.fabric.proofs.Laws.{leads_own}
use Rattle.orbit.specs.Walk.{Turn.ends as comes-to, Spot.ended, hops_n}
use Rattle.orbit.proofs.Orbit.{Reached, reach_start, reach_on, reach_ends, reach_stops, reach_hops, reach_never, length_hops}
use Rattle.walk.specs.Walking.{End, End.path, End.no_path, End.fault, turn_by, walk_on, path_of}
use Rattle.walk.specs.Rule.{settled, walk_from, in_room}
use Rattle.walk.specs.Tables.{Leaving, last_of, leaving_by, leaving_of, leaves, tally_outcome, hops_outcome, hops_by, no_need, Tallied, Onward}
use Rattle.walk.proofs.Laws.{ranked, walk_ends, walk_never, hopped, sound, rule}
use Rattle.walk.proofs.Leading.{there_below, leads_there, upstreams}
use Rattle.adapter.specs.declared.EntryOut.{EntryOut}
use Rattle.adapter.specs.Paths.{entry_out}
use Rattle.walk.specs.Tables.{walked_to}
use Rattle.walk.specs.declared.Walked.{Walked}
use Rattle.fabric.specs.declared.Next.{Next}
use Rattle.fabric.specs.declared.Next.TheVariants as next
use Rattle.tables.specs.declared.Stand.{Stand}
use Rattle.tables.specs.declared.Tables.{Tables}
use Rattle.tables.specs.Tables.{InOrder, Tabled, rows_of}
use Rattle.refusal.specs.declared.WalkError.{WalkError}

-- ---- by what a walk leaves

last_more : (e h : EntryRow) (hs : List EntryRow) → last_of h (hs ++ (e ∷ [])) ≡ e
unfolding last_of
last_more e h [] = refl
last_more e h (g ∷ hs) = last_more e g hs

pub leaving_more : (hs : List EntryRow) (e : EntryRow) → leaving_of (hs ++ (e ∷ [])) ≡ Some (leaving_by (length hs + 1) e)
unfolding leaving_of last_of
leaving_more [] e = refl
leaving_more (h ∷ hs) e =
    let z : suc (length (hs ++ (e ∷ []))) ≡ suc (length hs) + 1 = omega (arith, length-append hs (e ∷ [])) in
    rw (z, last_more e h hs) refl

leaves_path : (hs : List EntryRow) → leaving_of hs ≡ leaves (path_of hs)
unfolding leaving_of leaves path_of
leaves_path [] = refl
leaves_path (h ∷ hs) = refl

-- ---- a refusal is the same refusal in any answer

refusal_also : {A : Type 0} (r : WalkError) (k : ℕ) (vs : List ℕ) → refused_by {A = Way} (of_walk r) ≡ refused k vs → refused_by {A = A} (of_walk r) ≡ refused k vs
unfolding bind
refusal_also {A} r k vs q = sym (walk_bind r f) ∙ ap (λ (o : Outcome Way). bind o f) q
  where
    f : Way → Outcome A
    f w = refused 0 []

-- ---- the loop

abbrev at : ℕ → ℕ → ℕ → Stand
at p a h = record { place = p; adapter = a; hop_id = h }

abbrev hop_row : ℕ → ℕ → ℕ → ℕ → ℕ → EntryRow
hop_row p a h out hop = record { device = p; adapter = a; in_hop = h; out_adapter = out; out_hop = hop }

abbrev Answers : Tables → Stand → Outcome (Option Leaving) → Type 0
Answers tables s r = r ≡ bind (walk_from (rows_of tables) s) (λ o. value (leaves o))

-- after n hops it stands at place p, adapter a and HopID h, where the last hop left by adapter out of the device at from
record Going (tables : Tables) (s : Stand) (n p a h from out : ℕ) : Type 0 where
  reached : Reached (walk_on (rows_of tables)) s n (at p a h)
  below : p < 65536
  leaving : leaving_of (hops_n (walk_on (rows_of tables)) s n) ≡ Some (record { hops = n; place = from; adapter = out; hop_id = h })

-- the same with the hop that is found there
record Hop (tables : Tables) (s : Stand) (n p a h out hop : ℕ) : Type 0 where
  reached : Reached (walk_on (rows_of tables)) s n (at p a h)
  found : (walk_on (rows_of tables)).hop (at p a h) ≡ Some (hop_row p a h out hop)

in_order : {tables : Tables} → Tabled tables → InOrder tables
in_order t = t.others

module _ (tables : Tables) (s : Stand) where
  looked : {p a h : ℕ} {r : Option EntryOut} → Tabled tables → p < 65536 → EntrySought tables.entries.now p a h r → (walk_on (rows_of tables)).hop (at p a h) ≡ entry_found p a h r
  unfolding walk_on rows_of
  looked t l q = sym (q.first l t.entries)

  going_hop : {n p a h f o out hop : ℕ} {r : Option EntryOut} → Tabled tables → Going tables s n p a h f o → EntrySought tables.entries.now p a h r → r ≡ Some (entry_out out hop) → Hop tables s n p a h out hop
  unfolding entry_found
  going_hop {n} {p} {a} {h} t g q e = record { reached = g.reached; found = looked t g.below q ∙ ap (entry_found p a h) e }

  -- the answer, by the outcome of the walk
  comes : (o : Outcome (Option (List EntryRow))) → walk_from (rows_of tables) s ≡ o → bind o (λ z. value (leaves z)) ≡ bind (walk_from (rows_of tables) s) (λ z. value (leaves z))
  comes o q = ap (λ (z : Outcome (Option (List EntryRow))). bind z (λ y. value (leaves y))) (sym q)

  start_stops : {r : Option EntryOut} → Tabled tables → s.place < 65536 → EntrySought tables.entries.now s.place s.adapter s.hop_id r → r ≡ None → Answers tables s (tally_outcome (Ok None))
  unfolding entry_found hops_n settled path_of bind leaves tally_outcome
  start_stops t l q e =
      let w = reach_stops (walk_on (rows_of tables)) s (reach_start (walk_on (rows_of tables)) s) (looked t l q ∙ ap (entry_found s.place s.adapter s.hop_id) e) in
      comes (value None) (walk_ends (rows_of tables) s w.0 ∙ ap (settled []) w.1)

  going_stops : {n p a h f o : ℕ} {r : Option EntryOut} → Tabled tables → Going tables s n p a h f o → EntrySought tables.entries.now p a h r → r ≡ None → Answers tables s (tally_outcome (walked_to n f o h))
  unfolding entry_found settled bind leaves tally_outcome
  going_stops {n} {p} {a} {h} t g q e =
      let w = reach_stops (walk_on (rows_of tables)) s g.reached (looked t g.below q ∙ ap (entry_found p a h) e) in
      let hs = hops_n (walk_on (rows_of tables)) s n in
      ap value (sym g.leaving ∙ leaves_path hs) ∙ comes (value (path_of hs)) (walk_ends (rows_of tables) s w.0 ∙ ap (settled hs) w.1)

  hop_ring : {n p a h out hop : ℕ} → Hop tables s n p a h out hop → n ≡ length tables.entries.now → Answers tables s (tally_outcome (Err (walk.Fault Endless)))
  unfolding bind tally_outcome refusal_of rows_of
  hop_ring {n} {p} {a} {h} g l =
      let x = rows_of tables in
      let z : n ≡ valid_entries x = l ∙ sym (length-map tables.entries.now entry_word) in
      comes (refused 13 []) (walk_never x s (reach_never (walk_on x) (valid_entries x) (ranked x) s (subst (λ (m : ℕ). Reached (walk_on x) s m (at p a h)) z g.reached) g.found))

  -- where the hop leads
  turn : {n p a h out hop : ℕ} {w : Result Next WalkError} → Tabled tables → Hop tables s n p a h out hop → LeadsTo tables (λ x. leads x p out) w → (o : Outcome Way) → next_outcome w ≡ o
      → (walk_on (rows_of tables)).next (at p a h) (hop_row p a h out hop) ≡ turn_by (hop_row p a h out hop) o
  unfolding walk_on rows_of
  turn t g q o e = ap (turn_by _) (sym (leads_own q (in_order t)) ∙ e)

  leaving_next : {n p a h out hop : ℕ} → Hop tables s n p a h out hop → leaving_of (hops_n (walk_on (rows_of tables)) s (n + 1)) ≡ Some (record { hops = n + 1; place = p; adapter = out; hop_id = hop })
  unfolding leaving_by
  leaving_next {n} {p} {a} {h} {out} {hop} g =
      let W = walk_on (rows_of tables) in
      ap leaving_of (reach_hops W s g.reached g.found) ∙ leaving_more (hops_n W s n) (hop_row p a h out hop) ∙ ap (λ (m : ℕ). Some (leaving_by (m + 1) (hop_row p a h out hop))) (length_hops W s n g.reached.hops)

  hop_on : {n p a h out hop q b : ℕ} {w : Result Next WalkError} → Tabled tables → Hop tables s n p a h out hop → LeadsTo tables (λ x. leads x p out) w → w ≡ Ok (next.On q b) → Going tables s (n + 1) q b hop p out
  unfolding next_outcome turn_by
  hop_on {n} {p} {a} {h} {out} {hop} {q} {b} t g l e = record {
    reached = reach_on (walk_on (rows_of tables)) s g.reached g.found (turn t g l (value (on q b)) (ap next_outcome e));
    below = omega (arith, t.others.devices, there_below tables q (leads_there (rows_of tables) (upstreams tables) p out q b (sym (leads_own l (in_order t)) ∙ ap next_outcome e)));
    leaving = leaving_next g;
  }

  -- a hop that ends the walk
  hop_ends : {n p a h out hop : ℕ} {w : Result Next WalkError} → Tabled tables → Hop tables s n p a h out hop → LeadsTo tables (λ x. leads x p out) w → (o : Outcome Way) → next_outcome w ≡ o → (z : End)
      → turn_by (hop_row p a h out hop) o ≡ comes-to z → walk_from (rows_of tables) s ≡ settled (hops_n (walk_on (rows_of tables)) s (n + 1)) (ended z)
  hop_ends t g l o e z q =
      let x = rows_of tables in
      let v = reach_ends (walk_on x) s g.reached g.found (turn t g l o e ∙ q) in
      walk_ends x s v.0 ∙ ap (settled _) v.1

  hop_last : {n p a h out hop : ℕ} {w : Result Next WalkError} → Tabled tables → Hop tables s n p a h out hop → LeadsTo tables (λ x. leads x p out) w → w ≡ (Ok next.Last) → Answers tables s (tally_outcome (walked_to (n + 1) p out hop))
  unfolding next_outcome turn_by settled bind leaves tally_outcome
  hop_last {n} t g l e =
      let hs = hops_n (walk_on (rows_of tables)) s (n + 1) in
      ap value (sym (leaving_next g)) ∙ comes (value (Some hs)) (hop_ends t g l (value last) (ap next_outcome e) path refl)

  hop_dropped : {n p a h out hop : ℕ} {w : Result Next WalkError} → Tabled tables → Hop tables s n p a h out hop → LeadsTo tables (λ x. leads x p out) w → w ≡ (Ok next.Dropped) → Answers tables s (tally_outcome (Ok None))
  unfolding next_outcome turn_by settled bind leaves tally_outcome
  hop_dropped t g l e = comes (value None) (hop_ends t g l (value dropped) (ap next_outcome e) no_path refl)

  hop_refused : {n p a h out hop : ℕ} {w : Result Next WalkError} {r : WalkError} → Tabled tables → Hop tables s n p a h out hop → LeadsTo tables (λ x. leads x p out) w → w ≡ Err r → Answers tables s (tally_outcome (Err r))
  unfolding next_outcome turn_by settled bind tally_outcome
  hop_refused {r = r} t g l e =
      let v = numbered Way (of_walk r) in
      refusal_also r v.0 v.1 v.2 ∙ comes (refused v.0 v.1) (hop_ends t g l (refused v.0 v.1) (ap next_outcome e ∙ v.2) (fault v.0 v.1) refl)

-- ---- what is returned

hops_only : Option Leaving → Outcome (Option ℕ)
hops_only None = value None
hops_only (Some l) = value (Some l.hops)

hops_alone : (r : Result (Option Walked) WalkError) → hops_outcome r ≡ bind (tally_outcome r) hops_only
unfolding hops_outcome tally_outcome bind hops_only
hops_alone (Ok (Some w)) = refl
hops_alone (Ok None) = refl
hops_alone (Err r) = sym (walk_bind r hops_only)

-- the number of hops is the path's, which has one
hops_room : (x : Rows) (s : Stand) (o : Outcome (Option (List EntryRow))) → walk_from x s ≡ o → bind (bind o (λ z. value (leaves z))) hops_only ≡ bind o (in_room no_need 0)
unfolding bind leaves leaving_of leaving_by hops_only in_room no_need
hops_room x s (refused k vs) q = refl
hops_room x s (value None) q = refl
hops_room x s (value (Some [])) q = absurd (let w = hopped x s [] q in omega (arith, w.one, w.long))
hops_room x s (value (Some (h ∷ hs))) q = refl

tallied : (tables : Tables) (s : Stand) (r : Result (Option Walked) WalkError) → (Tabled tables → s.place < 65536 → Answers tables s (tally_outcome r))
    → (65535 < s.place → r ≡ (Ok None)) → hops_by r ≤ length tables.entries.now → is_given r ≡ ltb 0 (hops_by r) → Tallied tables s r
unfolding bind leaves rows_of
tallied tables s r answers past few one = record {
  answers = answers;
  past = past;
  few = few;
  one = one;
  walks = λ t d q.
      let x = rows_of tables in
      let g = sound tables s d q in
      let a = answers t (omega (arith, t.others.devices, there_below tables s.place g.start)) in
      rule x s no_need 0 _ _ g (hops_alone r ∙ ap (λ (o : Outcome (Option Leaving)). bind o hops_only) a ∙ hops_room x s (walk_from x s) refl)
      (λ hs n f p. a ∙ ap (λ (o : Outcome (Option (List EntryRow))). bind o (λ z. value (leaves z))) f);
}

-- ---- from hop to hop, on any tables

-- after n hops it is at the device at place p, where the hop found leaves by adapter out and HopID hop
record Hopping (tables : Tables) (s : Stand) (n p out hop : ℕ) : Type 0 where
  few : n ≤ length tables.entries.now
  near : s.place < 65536
  adapter : ℕ
  hop_id : ℕ
  made : Tabled tables → Hop tables s n p adapter hop_id out hop

module _ (tables : Tables) (s : Stand) where
  -- an entry is found only where a key has room for the place
  start_near : {o h : ℕ} → EntrySought tables.entries.now s.place s.adapter s.hop_id (Some (entry_out o h)) → s.place < 65536
  start_near {o} {h} q = go (dec_lt s.place 65536)
    where
      go : Dec (s.place < 65536) → s.place < 65536
      go (yes l) = l
      go (no l) = absurd (let w : Some (entry_out o h) ≡ None = q.past (omega arith) in let z : ◌≡◌ {A = ℕ} 0 1 = cc in omega arith)

  hopping_start : {o h : ℕ} → EntrySought tables.entries.now s.place s.adapter s.hop_id (Some (entry_out o h)) → Hopping tables s 0 s.place o h
  unfolding entry_found
  hopping_start q = record {
    few = omega arith;
    near = start_near q;
    adapter = s.adapter;
    hop_id = s.hop_id;
    made = λ t. record { reached = reach_start (walk_on (rows_of tables)) s; found = looked tables s t (start_near q) q };
  }

  hopping_on : {n p o h q b o' h' : ℕ} {w : Result Next WalkError} {r : Option EntryOut} → Hopping tables s n p o h → n < length tables.entries.now → LeadsTo tables (λ x. leads x p o) w → w ≡ Ok (next.On q b) → EntrySought tables.entries.now q b h r → r ≡ Some (entry_out o' h')
      → Hopping tables s (n + 1) q o' h'
  hopping_on {h = h} {b = b} k m l e f g =
      record { few = omega arith; near = k.near; adapter = b; hop_id = h; made = λ t. going_hop tables s t (hop_on tables s t (k.made t) l e) f g }

  tallied_path : {n p o h : ℕ} → s.place < 65536 → n < length tables.entries.now → (Tabled tables → Answers tables s (tally_outcome (walked_to (n + 1) p o h))) → Tallied tables s (walked_to (n + 1) p o h)
  unfolding hops_by is_given
  tallied_path {n} l m q = tallied tables s _ (λ t z. q t) (λ z. absurd (omega arith)) (omega arith) (sym (lt-ltb 0 (n + 1) (omega arith)))

  tallied_refused : {r : WalkError} → s.place < 65536 → (Tabled tables → Answers tables s (tally_outcome (Err r))) → Tallied tables s (Err r)
  unfolding hops_by is_given
  tallied_refused l q = tallied tables s _ (λ t z. q t) (λ z. absurd (omega arith)) (omega arith) refl

  tallied_absent : (Tabled tables → s.place < 65536 → Answers tables s (tally_outcome (Ok None))) → Tallied tables s (Ok None)
  unfolding hops_by is_given
  tallied_absent q = tallied tables s _ q (λ l. refl) (omega arith) refl

  pub absent : {r : Option EntryOut} → EntrySought tables.entries.now s.place s.adapter s.hop_id r → r ≡ None → Tallied tables s (Ok None)
  absent q e = tallied_absent (λ t l. start_stops tables s t l q e)

  pub walks_on : {e : EntryOut} {r : Option EntryOut} {v : Result (Option Walked) WalkError} → EntrySought tables.entries.now s.place s.adapter s.hop_id r → r ≡ Some e → Onward tables s.place e v → Tallied tables s v
  walks_on q e w = w.ends s.adapter s.hop_id (subst (λ (r : Option EntryOut). EntrySought tables.entries.now s.place s.adapter s.hop_id r) e q)

-- ---- what the loop keeps: every walk that makes the hop it began with has come to the hop where it is

pub record Kept (tables : Tables) (p₀ o₀ h₀ n p o h : ℕ) : Type 0 where
  going : (a k : ℕ) → EntrySought tables.entries.now p₀ a k (Some (entry_out o₀ h₀)) → Hopping tables (at p₀ a k) n p o h

module _ (tables : Tables) {p₀ o₀ h₀ : ℕ} where
  pub kept_start : Kept tables p₀ o₀ h₀ 0 p₀ o₀ h₀
  kept_start = record { going = λ a k q. hopping_start tables (at p₀ a k) q }

  -- a path has a hop
  path_by_lem : {n p o h : ℕ} → n < length tables.entries.now → ((a k : ℕ) → EntrySought tables.entries.now p₀ a k (Some (entry_out o₀ h₀)) → Tallied tables (at p₀ a k) (walked_to (n + 1) p o h)) → Onward tables p₀ (entry_out o₀ h₀) (walked_to (n + 1) p o h)
  unfolding hops_by is_given
  path_by_lem {n} m e = record { ends = e; few = omega arith; one = sym (lt-ltb 0 (n + 1) (omega arith)) }

  refused_by_lem : {r : WalkError} → ((a k : ℕ) → EntrySought tables.entries.now p₀ a k (Some (entry_out o₀ h₀)) → Tallied tables (at p₀ a k) (Err r)) → Onward tables p₀ (entry_out o₀ h₀) (Err r)
  unfolding hops_by is_given
  refused_by_lem e = record { ends = e; few = omega arith; one = refl }

  pub kept_ring : {n p o h : ℕ} → Kept tables p₀ o₀ h₀ n p o h → length tables.entries.now ≤ n → Onward tables p₀ (entry_out o₀ h₀) (Err (walk.Fault Endless))
  kept_ring g m = refused_by_lem (λ a k q. let j = g.going a k q in tallied_refused tables _ j.near (λ t. hop_ring tables _ (j.made t) (omega (arith, j.few))))

  module _ {n p o h : ℕ} {w : Result Next WalkError} (g : Kept tables p₀ o₀ h₀ n p o h) (m : n < length tables.entries.now) (l : LeadsTo tables (λ x. leads x p o) w) where
    pub kept_last : w ≡ (Ok next.Last) → Onward tables p₀ (entry_out o₀ h₀) (walked_to (n + 1) p o h)
    kept_last e = path_by_lem m (λ a k q. let j = g.going a k q in tallied_path tables _ j.near m (λ t. hop_last tables _ t (j.made t) l e))

    pub kept_dropped : w ≡ (Ok next.Dropped) → Onward tables p₀ (entry_out o₀ h₀) (Ok None)
    unfolding hops_by is_given
    kept_dropped e = record { ends = λ a k q. tallied_absent tables _ (λ t z. hop_dropped tables _ t ((g.going a k q).made t) l e); few = omega arith; one = refl }

    pub kept_refused : {r : WalkError} → w ≡ Err r → Onward tables p₀ (entry_out o₀ h₀) (Err r)
    kept_refused e = refused_by_lem (λ a k q. let j = g.going a k q in tallied_refused tables _ j.near (λ t. hop_refused tables _ t (j.made t) l e))

    pub kept_stops : {q b : ℕ} {r : Option EntryOut} → w ≡ Ok (next.On q b) → EntrySought tables.entries.now q b h r → r ≡ None → Onward tables p₀ (entry_out o₀ h₀) (walked_to (n + 1) p o h)
    kept_stops e f z = path_by_lem m (λ a k q. let j = g.going a k q in tallied_path tables _ j.near m (λ t. going_stops tables _ t (hop_on tables _ t (j.made t) l e) f z))

    pub kept_on : {q b o' h' : ℕ} {r : Option EntryOut} → w ≡ Ok (next.On q b) → EntrySought tables.entries.now q b h r → r ≡ Some (entry_out o' h') → Kept tables p₀ o₀ h₀ (n + 1) q o' h'
    kept_on e f z = record { going = λ a k q. hopping_on tables _ (g.going a k q) m l e f z }
