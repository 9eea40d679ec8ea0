-- Laws for the search over the devices and the HopIDs of their lanes: what is left to search gives the whole. Assumes nothing.
use Prim.Native.Nat.{ℕ, zero, suc, ◌+◌, ◌*◌, ◌-◌, ◌/◌, ◌%◌, ◌^◌, ◌≤◌, ◌<◌}
use mathlib.Core.Path.{◌≡◌, refl, sym, ap, ◌∙◌, subst}
use mathlib.Core.Bool.{Bool, cond, true≢false}
use mathlib.Core.List.{List, [], ◌∷◌, ◌++◌}
use Rattle.std.specs.Prelude.{Option, None, Some, Result, Ok, Err}
use Rattle.std.proofs.lemmas.Option.{none-some}
use native.Mathlib.Omega.{arith}
use native.Mathlib.Decide.{dec_lt}
use native.Mathlib.Numerals.{add-one}
use lib.Dec.{eqb}
use lib.ListN.{length, take, drop, length-set}
use lib.Seq.{drop-nil, drop-drop, take-suc-set}
use borrow.Author.Tests.{ne_eqb}
use Rattle.refusal.specs.Outcome.{Outcome, value, bind}
use Rattle.tables.specs.Rows.{DeviceRow, Rows, device_in}
use Rattle.tables.proofs.Laws.{device_past}
use Rattle.refusal.proofs.Laws.{walk_bind}
use Rattle.receive.specs.Receive.{at, Lane, lane_of, Receive, Receive.nothing, among_hops, at_lane, or_next, among_devices, receive}
use Rattle.receive.specs.Tables.{Said, said_of, received_outcome, hops_by, note_stand, note_ring, walk_said, by_notes, is_path, Searches}
use Rattle.receive.specs.Work.{lane_outcome, LaneIs, lane_by, lane_at, said, up_to, Stepped, end_hops, Looked, PutNote}
use Rattle.receive.specs.declared.LaneFound.{LaneFound}
use Rattle.receive.specs.declared.LaneFound.TheVariants as found
use Rattle.receive.specs.declared.Received.{Received}
use Rattle.receive.specs.declared.Received.TheVariants as answer
use Rattle.receive.specs.declared.ReceivePath.{ReceivePath}
use Rattle.receive.specs.declared.Step.{Step}
use Rattle.receive.specs.declared.Step.TheVariants as step
use Rattle.receive.proofs.Lanes.{lane_fits}
use Rattle.tables.specs.declared.Stand.{Stand}
use Rattle.tables.specs.declared.Tables.{Tables}
use Rattle.tables.specs.Tables.{InOrder, Tabled, rows_of}
use Rattle.refusal.specs.declared.WalkError.{WalkError}

-- ---- the devices from a place on

drop_there : (ds : List DeviceRow) (i : ℕ) (d : DeviceRow) → device_in ds i ≡ Some d → drop i ds ≡ d ∷ drop (suc i) ds
unfolding device_in
drop_there [] i d e = absurd (none-some d e)
drop_there (y ∷ ds) zero d e = ap (λ (z : DeviceRow). z ∷ ds) (let z : y ≡ d = cc in z)
drop_there (y ∷ ds) (suc i) d e = drop_there ds i d e

drop_past : (ds : List DeviceRow) (i : ℕ) → device_in ds i ≡ None → drop i ds ≡ []
unfolding device_in
drop_past [] i e = drop-nil i
drop_past (y ∷ ds) zero e = absurd (none-some y (sym e))
drop_past (y ∷ ds) (suc i) e = drop_past ds i e

-- what is left to search
abbrev pub left : Rows → ℕ → ℕ → Outcome Receive
left x ring i = among_devices x ring i (drop i x.devices)

module _ (x : Rows) (ring i : ℕ) where
  left_none : (j : ℕ) → drop j x.devices ≡ [] → left x ring j ≡ value nothing
  unfolding among_devices
  left_none j e = ap (among_devices x ring j) e

  pub left_past : None ≡ device_in x.devices i → left x ring i ≡ value nothing
  left_past e = left_none i (drop_past x.devices i (sym e))

  -- the lane of the device at the place, and then the devices after it
  step_none : device_in x.devices i ≡ None → left x ring i ≡ bind (bind (lane_by x i None) (at_lane x ring)) (or_next (left x ring (i + 1)))
  unfolding lane_by bind at_lane or_next
  step_none e =
      let d = drop_past x.devices i e in
      left_none i d ∙ sym (left_none (i + 1) (sym (drop-drop 1 i x.devices) ∙ ap (drop 1) d))

  step_some : (d : DeviceRow) → device_in x.devices i ≡ Some d → left x ring i ≡ bind (bind (lane_by x i (Some d)) (at_lane x ring)) (or_next (left x ring (i + 1)))
  unfolding among_devices lane_by
  step_some d e =
      ap (among_devices x ring i) (drop_there x.devices i d e)
      ∙ ap (λ (j : ℕ). bind (bind (lane_of x i d) (at_lane x ring)) (or_next (left x ring j))) (sym (add-one i))

  pub left_step : left x ring i ≡ bind (bind (lane_at x i) (at_lane x ring)) (or_next (left x ring (i + 1)))
  unfolding lane_at
  left_step = go (device_in x.devices i) refl
    where
      go : (o : Option DeviceRow) → device_in x.devices i ≡ o → left x ring i ≡ bind (bind (lane_by x i o) (at_lane x ring)) (or_next (left x ring (i + 1)))
      go None e = step_none e
      go (Some d) e = step_some d e

in_order : {tables : Tables} → Tabled tables → InOrder tables
in_order t = t.others

-- ---- notes

-- none of them leaves by the ring
unfoldable pub Others : ℕ → List ℕ → Type 0
Others v [] = 0 ≤ 0
Others v (w ∷ ws) = (note_ring w ≡ v → ⊥) × Others v ws

module _ (x : Rows) (v : ℕ) where
  pub notes_more : (ws : List ℕ) (w : ℕ) (rest : Outcome Said) → by_notes x v (ws ++ w ∷ []) rest ≡ by_notes x v ws (cond (eqb (note_ring w) v) (walk_said x v (note_stand w)) rest)
  unfolding by_notes
  notes_more [] w rest = refl
  notes_more (u ∷ ws) w rest = ap (λ (z : Outcome Said). cond (eqb (note_ring u) v) (walk_said x v (note_stand u)) z) (notes_more ws w rest)

  pub notes_none : (ws : List ℕ) (rest : Outcome Said) → Others v ws → by_notes x v ws rest ≡ rest
  unfolding by_notes Others
  notes_none [] rest o = refl
  notes_none (w ∷ ws) rest o = ap (λ (b : Bool). cond b (walk_said x v (note_stand w)) (by_notes x v ws rest)) (ne_eqb (note_ring w) v o.0) ∙ notes_none ws rest o.1

others_more : (v : ℕ) (ws : List ℕ) (w : ℕ) → Others v ws → (note_ring w ≡ v → ⊥) → Others v (ws ++ w ∷ [])
unfolding Others
others_more v [] w o n = (n, omega arith)
others_more v (u ∷ ws) w o n = (o.0, others_more v ws w o.1 n)

-- a note's start
note_stand_lem : (w q n k o : ℕ) → w ≡ q * 1099511627776 + n * 4294967296 + k * 65536 + o → q < 65536 → n < 256 → k < 65536 → o < 65536 → note_stand w ≡ at q n k
unfolding note_stand
note_stand_lem w q n k o e l a b c =
    let p : w / 2 ^ 40 % 65536 ≡ q = omega (arith, e, l, a, b, c) in
    let r : w / 2 ^ 32 % 256 ≡ n = omega (arith, e, a, b, c) in
    let s : w / 2 ^ 16 % 65536 ≡ k = omega (arith, e, a, b, c) in
    ap (λ (z : ℕ). at z (w / 2 ^ 32 % 256) (w / 2 ^ 16 % 65536)) p ∙ ap (λ (z : ℕ). at q z (w / 2 ^ 16 % 65536)) r ∙ ap (λ (z : ℕ). at q n z) s

-- ---- the loops

-- notes that are put one after another; they are all there, as long as there is room for one more
pub record Written (ring : ℕ) (ws : List ℕ) (noted : ℕ) (notes : List ℕ) : Type 0 where
  pub others : Others ring ws
  pub kept : noted < length notes → take noted notes ≡ ws
  pub within : noted ≤ length notes

written_more : (ring : ℕ) (ws : List ℕ) (noted : ℕ) (notes : List ℕ) (w noted' : ℕ) (notes' : List ℕ) → Written ring ws noted notes → (note_ring w ≡ ring → ⊥) → PutNote w noted notes noted' notes' → Written ring (ws ++ w ∷ []) noted' notes'
written_more ring ws noted notes w noted' notes' x n p = go (dec_lt noted (length notes))
  where
    go : Dec (noted < length notes) → Written ring (ws ++ w ∷ []) noted' notes'
    go (yes l) =
        let e = p.put l in
        record {
          others = others_more ring ws w x.others n;
          kept = λ m. ap (λ (k : ℕ). take k notes') (e.0 ∙ add-one noted) ∙ ap (take (suc noted)) e.1 ∙ take-suc-set notes noted w l ∙ ap (λ (z : List ℕ). z ++ w ∷ []) (x.kept l);
          within = omega (arith, e.0, ap length e.1, length-set notes noted w);
        }
    go (no l) =
        let e = p.full (omega arith) in
        record {
          others = others_more ring ws w x.others n;
          kept = λ m. absurd (omega (arith, m, e.0, ap length e.1));
          within = omega (arith, e.0, ap length e.1, x.within);
        }

-- nothing is found yet, and for each ring the notes and then the devices from place i on give the whole
pub record Seeking (tables : Tables) (ring i : ℕ) (noted : ℕ) (notes : List ℕ) : Type 0 where
  pub ws : List ℕ
  pub written : Written ring ws noted notes
  pub whole : Tabled tables → (v : ℕ) → said (receive (rows_of tables) v) ≡ by_notes (rows_of tables) v ws (said (left (rows_of tables) v i))

-- nothing is found yet, and HopIDs h to hi of adapter n of the router at place q give the whole after the notes, with the devices after place i
pub record Among (tables : Tables) (ring i q n h hi : ℕ) (noted : ℕ) (notes : List ℕ) : Type 0 where
  pub fits : Tabled tables → q < 65536
  pub ws : List ℕ
  pub written : Written ring ws noted notes
  pub whole : Tabled tables → (v : ℕ) → said (receive (rows_of tables) v) ≡ by_notes (rows_of tables) v ws (said (bind (up_to (rows_of tables) v q n h hi) (or_next (left (rows_of tables) v (i + 1)))))

module _ (tables : Tables) (ring : ℕ) where
  -- what is answered is the rest of the search for each ring
  ends : (a : Result Received WalkError) (ws : List ℕ) (noted : ℕ) (notes : List ℕ) → Written ring ws noted notes → hops_by a ≤ length tables.entries.now → (Tabled tables → (v : ℕ) → said (receive (rows_of tables) v) ≡ by_notes (rows_of tables) v ws (received_outcome v a))
      → Searches (length notes) tables ring a noted notes
  ends a ws noted notes w few whole = record {
    comes = record { answers = λ t. sym (whole t ring ∙ notes_none (rows_of tables) ring ws (received_outcome ring a) w.others); few = few };
    long = refl;
    within = w.within;
    tells = λ p l. record { tells = λ t v. whole t v ∙ ap (λ (z : List ℕ). by_notes (rows_of tables) v z (received_outcome v a)) (sym (w.kept l)) };
  }

  -- the room is the list's length
  pub in_room_lem : {room noted : ℕ} {a : Result Received WalkError} {notes : List ℕ} → Searches (length notes) tables ring a noted notes → length notes ≡ room → Searches room tables ring a noted notes
  in_room_lem {noted = noted} {a = a} {notes = notes} s e = subst (λ (n : ℕ). Searches n tables ring a noted notes) e s

  pub seek_start : (notes : List ℕ) → Seeking tables ring 0 0 notes
  unfolding receive by_notes Others
  seek_start notes = record { ws = []; written = record { others = omega arith; kept = λ l. refl; within = omega arith }; whole = λ t v. refl }

  module _ {i : ℕ} {noted : ℕ} {notes : List ℕ} (s : Seeking tables ring i noted notes) where
    pub seek_end : length tables.devices.now ≤ i → Searches (length notes) tables ring (Ok answer.Nothing) noted notes
    unfolding received_outcome hops_by bind said_of rows_of
    seek_end l = ends (Ok answer.Nothing) s.ws noted notes s.written (omega arith) (λ t v.
        s.whole t v ∙ ap (λ (o : Outcome Receive). by_notes (rows_of tables) v s.ws (said o)) (left_past (rows_of tables) v i (device_past 0 tables.devices.now i l)))

    -- by the lane of the device at place i
    module _ {u : Result LaneFound WalkError} (is : LaneIs tables (λ x. lane_at x i) u) where
      lane_is : (f : Result LaneFound WalkError) → u ≡ f → Tabled tables → lane_outcome f ≡ lane_at (rows_of tables) i
      unfolding rows_of
      lane_is f e t = ap lane_outcome (sym e) ∙ is.is (in_order t)

      seek_lane : (f : Result LaneFound WalkError) → u ≡ f → Tabled tables → (v : ℕ) → said (receive (rows_of tables) v) ≡ by_notes (rows_of tables) v s.ws (said (bind (bind (lane_outcome f) (at_lane (rows_of tables) v)) (or_next (left (rows_of tables) v (i + 1)))))
      seek_lane f e t v =
          s.whole t v
          ∙ ap (λ (o : Outcome Receive). by_notes (rows_of tables) v s.ws (said o)) (left_step (rows_of tables) v i)
          ∙ ap (λ (o : Outcome Lane). by_notes (rows_of tables) v s.ws (said (bind (bind o (at_lane (rows_of tables) v)) (or_next (left (rows_of tables) v (i + 1)))))) (sym (lane_is f e t))

      pub seek_refused : (a : WalkError) → u ≡ Err a → Searches (length notes) tables ring (Err a) noted notes
      unfolding received_outcome hops_by lane_outcome
      seek_refused a e = ends (Err a) s.ws noted notes s.written (omega arith) (λ t v.
          seek_lane (Err a) e t v
          ∙ ap (λ (o : Outcome Receive). by_notes (rows_of tables) v s.ws (said (bind o (or_next (left (rows_of tables) v (i + 1)))))) (walk_bind a (at_lane (rows_of tables) v))
          ∙ ap (λ (o : Outcome Receive). by_notes (rows_of tables) v s.ws (said o)) (walk_bind a (or_next (left (rows_of tables) v (i + 1))))
          ∙ ap (λ (o : Outcome Said). by_notes (rows_of tables) v s.ws o) (walk_bind a (λ y. value (said_of y))))

      pub seek_lost : u ≡ (Ok found.Dropped) → Searches (length notes) tables ring (Ok answer.Lost) noted notes
      unfolding received_outcome hops_by lane_outcome bind at_lane or_next said_of
      seek_lost e = ends (Ok answer.Lost) s.ws noted notes s.written (omega arith) (λ t v. seek_lane (Ok found.Dropped) e t v)

      pub seek_passed : u ≡ (Ok found.Passed) → Seeking tables ring (i + 1) noted notes
      unfolding lane_outcome bind at_lane or_next
      seek_passed e = record { ws = s.ws; written = s.written; whole = λ t v. seek_lane (Ok found.Passed) e t v }

      pub seek_at : (q n lo hi : ℕ) → u ≡ Ok (found.At q n lo hi) → Among tables ring i q n lo hi noted notes
      unfolding lane_outcome bind at_lane up_to rows_of
      seek_at q n lo hi e = record {
        fits = λ t. lane_fits tables i q n lo hi (in_order t) (lane_is (Ok (found.At q n lo hi)) e t);
        ws = s.ws;
        written = s.written;
        whole = λ t v. seek_lane (Ok (found.At q n lo hi)) e t v;
      }

  module _ {i q n h hi : ℕ} {noted : ℕ} {notes : List ℕ} (s : Among tables ring i q n h hi noted notes) where
    -- none is left
    among_none : (Tabled tables → (v : ℕ) → up_to (rows_of tables) v q n h hi ≡ value nothing) → Seeking tables ring (i + 1) noted notes
    unfolding bind or_next
    among_none g = record {
      ws = s.ws;
      written = s.written;
      whole = λ t v. s.whole t v ∙ ap (λ (o : Outcome Receive). by_notes (rows_of tables) v s.ws (said (bind o (or_next (left (rows_of tables) v (i + 1)))))) (g t v);
    }

    pub among_end : hi < h → Seeking tables ring (i + 1) noted notes
    unfolding up_to among_hops
    among_end l = among_none (λ t v. ap (among_hops (rows_of tables) v q n h) (let z : hi + 1 - h ≡ 0 = omega arith in z))

    -- by the look at the next of them
    module _ {u : Result Step WalkError} (k : Looked tables ring q n h hi u) where
      look : (f : Result Step WalkError) → u ≡ f → Tabled tables → Stepped (rows_of tables) ring q n h hi f
      look f e t = subst (Stepped (rows_of tables) ring q n h hi) e (k.stepped t (s.fits t))

      pub among_over : u ≡ (Ok step.Over) → Seeking tables ring (i + 1) noted notes
      unfolding Stepped
      among_over e = among_none (look (Ok step.Over) e)

      pub among_on : (j : ℕ) → u ≡ Ok (step.On j) → Among tables ring i q n j hi noted notes
      unfolding Stepped
      among_on j e = record {
        fits = s.fits;
        ws = s.ws;
        written = s.written;
        whole = λ t v. s.whole t v ∙ ap (λ (o : Outcome Receive). by_notes (rows_of tables) v s.ws (said (bind o (or_next (left (rows_of tables) v (i + 1)))))) (look (Ok (step.On j)) e t v);
      }

      -- a path is passed, and noted
      pub among_past : (j o : ℕ) → u ≡ Ok (step.Past j o) → n < 256 → (w noted' : ℕ) (notes' : List ℕ) → note_ring w ≡ o → (q < 65536 → w ≡ q * 1099511627776 + n * 4294967296 + j * 65536 + o) → PutNote w noted notes noted' notes' → Among tables ring i q n (j + 1) hi noted' notes'
      unfolding Stepped
      among_past j o e b w noted' notes' leaves is put = record {
        fits = s.fits;
        ws = s.ws ++ w ∷ [];
        written = written_more ring s.ws noted notes w noted' notes' s.written (λ z. at_most.3 (sym leaves ∙ z)) put;
        whole = λ t v. s.whole t v ∙ ap (λ (z : Outcome Said). by_notes (rows_of tables) v s.ws z) (this t v) ∙ sym (notes_more (rows_of tables) v s.ws w _);
      }
        where
          at_most : (h ≤ j) × (j < 65536) × (o < 65536) × (o ≡ ring → ⊥)
          at_most = k.passed j o e

          -- it is the answer for the HopID that it leaves by
          this : Tabled tables → (v : ℕ) → said (bind (up_to (rows_of tables) v q n h hi) (or_next (left (rows_of tables) v (i + 1))))
              ≡ cond (eqb (note_ring w) v) (walk_said (rows_of tables) v (note_stand w)) (said (bind (up_to (rows_of tables) v q n (j + 1) hi) (or_next (left (rows_of tables) v (i + 1)))))
          this t v =
              let p = note_stand_lem w q n j o (is (s.fits t)) (s.fits t) b at_most.1 at_most.2 in
              look (Ok (step.Past j o)) e t v (left (rows_of tables) v (i + 1))
              ∙ ap (λ (z : ℕ). cond (eqb z v) (walk_said (rows_of tables) v (at q n j)) (said (bind (up_to (rows_of tables) v q n (j + 1) hi) (or_next (left (rows_of tables) v (i + 1)))))) (sym leaves)
              ∙ ap (λ (z : Stand). cond (eqb (note_ring w) v) (walk_said (rows_of tables) v z) (said (bind (up_to (rows_of tables) v q n (j + 1) hi) (or_next (left (rows_of tables) v (i + 1)))))) (sym p)

      pub among_fits : (p : ReceivePath) → u ≡ Ok (step.Fits p) → Searches (length notes) tables ring (Ok (answer.Path p)) noted notes
      unfolding Stepped end_hops hops_by is_path
      among_fits p e = record {
        comes = record { answers = λ t. look (Ok (step.Fits p)) e t _ ∙ sym (s.whole t ring ∙ notes_none (rows_of tables) ring s.ws _ s.written.others); few = omega (arith, k.few, ap end_hops e) };
        long = refl;
        within = s.written.within;
        tells = λ z l. absurd (true≢false z);
      }

      pub among_refused : (a : WalkError) → u ≡ Err a → Searches (length notes) tables ring (Err a) noted notes
      unfolding Stepped received_outcome hops_by
      among_refused a e = ends (Err a) s.ws noted notes s.written (omega arith) (λ t v. s.whole t v ∙ ap (λ (z : Outcome Said). by_notes (rows_of tables) v s.ws z) (sym (look (Err a) e t v _)))
