-- Laws for the loop that writes a path: the words so far, and where a hop leads. Assumes nothing.
use Prim.Native.Nat.{ℕ, suc, ◌+◌, ◌-◌, ◌*◌, ◌/◌, ◌≤◌, ◌<◌}
use mathlib.Core.Path.{◌≡◌, refl, sym, ap, ◌∙◌, subst}
use mathlib.Core.Bool.{true≢false}
use mathlib.Core.List.{List, [], ◌∷◌, ◌++◌, append_assoc, append-nil}
use Rattle.std.specs.Prelude.{Some, None, Option, Ok, Err, Result}
use native.Mathlib.Omega.{arith}
use native.Mathlib.Decide.{dec_lt}
use lib.ListN.{length, get_or, take, drop, set, length-append, length-drop, length-set}
use lib.Seq.{take_at, drop_at, sets-eq, drop-drop, drop-cons, drop-set-lt}
use Rattle.refusal.specs.Outcome.{Outcome, refused, value, bind}
use Rattle.tables.specs.Rows.{EntryRow}
use Rattle.tables.specs.Found.{EntrySought, entry_found}
use Rattle.refusal.specs.Refusal.{refused_by, of_walk}
use Rattle.refusal.specs.declared.Refusal.{Refusal}
use Rattle.refusal.proofs.Laws.{refused_bind}
use Rattle.orbit.specs.Walk.{Turn.ends as comes-to, hops_n, EndsAfter}
use Rattle.orbit.proofs.Orbit.{Reached, reach_start, reach_on, reach_ends, reach_stops, reach_hops, length_hops, ends_once}
use Rattle.fabric.specs.Fabric.{leads}
use Rattle.fabric.specs.Tables.{LeadsTo, next_outcome}
use Rattle.fabric.proofs.Laws.{leads_own}
use Rattle.walk.specs.Walking.{End, End.path, End.no_path, End.fault, walk_on, turn_by}
use Rattle.walk.proofs.Leading.{there_below, leads_there, upstreams}
use Rattle.path.specs.Words.{hop_words, hops_words, path_words, words_needed}
use Rattle.path.specs.Work.{walk_in, so_far, HopsPut}
use Rattle.adapter.specs.declared.EntryOut.{EntryOut}
use Rattle.adapter.specs.Paths.{entry_out}
use Rattle.fabric.specs.declared.Next.{Next}
use Rattle.fabric.specs.declared.Next.TheVariants as next
use Rattle.tables.specs.declared.Stand.{Stand}
use Rattle.tables.specs.declared.Tables.{Tables}
use Rattle.tables.specs.Tables.{InOrder, Sized, Tabled, rows_of}
use Rattle.refusal.specs.declared.WalkError.{WalkError}

-- ---- words

hops_words_more : (hs : List EntryRow) (e : EntryRow) → hops_words (hs ++ (e ∷ [])) ≡ hops_words hs ++ hop_words e
unfolding hops_words
hops_words_more [] e = append-nil (hop_words e)
hops_words_more (h ∷ hs) e = ap (λ l. hop_words h ++ l) (hops_words_more hs e) ∙ sym (append_assoc (hop_words h) (hops_words hs) (hop_words e))

pub length_hops_words : (hs : List EntryRow) → length (hops_words hs) ≡ 2 * length hs
unfolding hops_words hop_words
length_hops_words [] = refl
length_hops_words (h ∷ hs) = omega (arith, length_hops_words hs)

pub length_path_words : (name : ℕ) (hs : List EntryRow) → words_needed name hs ≡ 1 + 2 * length hs
unfolding words_needed path_words
length_path_words name hs = omega (arith, length_hops_words hs)

-- two words put after a front of k words
put_two : (front old out : List ℕ) (k u v : ℕ) → length front ≡ k → k + 2 ≤ length old → out ≡ front ++ drop k old → set (set out k u) (suc k) v ≡ front ++ (u ∷ v ∷ []) ++ drop (k + 2) old
put_two front old out k u v f room e =
    let n : k + 2 ≤ length out = omega (arith, ap length e, length-append front (drop k old), length-drop k old) in
    sets-eq (u ∷ v ∷ []) out k n
    ∙ ap (λ l. take k l ++ (u ∷ v ∷ []) ++ drop (k + 2) l) e
    ∙ ap (λ l. l ++ (u ∷ v ∷ []) ++ drop (k + 2) (front ++ drop k old)) (take_at front (drop k old) k f)
    ∙ ap (λ l. front ++ (u ∷ v ∷ []) ++ l) (sym (drop-drop 2 k (front ++ drop k old)) ∙ ap (drop 2) (drop_at front (drop k old) k f) ∙ drop-drop 2 k old)

so_far_more : (w : ℕ) (hs : List EntryRow) (x : EntryRow) (old out : List ℕ) (i u v : ℕ) → length hs ≡ i → 1 + 2 * i + 2 ≤ length old → u ∷ v ∷ [] ≡ hop_words x → out ≡ so_far w hs old
    → set (set out (1 + 2 * i) u) (2 + 2 * i) v ≡ so_far w (hs ++ (x ∷ [])) old
unfolding so_far
so_far_more w hs x old out i u v f room e g =
    let k : 1 + 2 * i + 2 ≡ 1 + 2 * length (hs ++ (x ∷ [])) = omega (arith, length-append hs (x ∷ [])) in
    let j : 2 + 2 * i ≡ suc (1 + 2 * i) = omega arith in
    ap (λ z. set (set out (1 + 2 * i) u) z v) j
    ∙ put_two (w ∷ hops_words hs) old out (1 + 2 * i) u v (omega (arith, length_hops_words hs)) room (g ∙ ap (λ z. (w ∷ hops_words hs) ++ drop (1 + 2 * z) old) f)
    ∙ ap (λ l. w ∷ (l ++ drop (1 + 2 * i + 2) old)) (ap (λ l. hops_words hs ++ l) e ∙ sym (hops_words_more hs x))
    ∙ ap (λ z. w ∷ (hops_words (hs ++ (x ∷ [])) ++ drop z old)) k

-- ---- outcomes

pub refused_as_lem : {A : Type 0} (o : Outcome A) (r : Refusal) → refused_by r ≡ o → (k : ℕ) × (vs : List ℕ) × (o ≡ refused k vs)
unfolding bind
refused_as_lem (refused k vs) r e = (k, vs, refl)
refused_as_lem {A} (value a) r e = absurd (let z : refused 0 [] ≡ value a = subst (λ o. bind o (λ b. refused 0 []) ≡ o) e (refused_bind r (λ b. refused 0 [])) in let y : ◌≡◌ {A = ℕ} 0 1 = cc in omega arith)

-- a hop that leads nowhere further ends the walk
ends_here : (e : EntryRow) (r : Result Next WalkError) → ((q a : ℕ) → r ≡ Ok (next.On q a) → ⊥) → (z : End) × (turn_by e (next_outcome r) ≡ comes-to z)
unfolding next_outcome turn_by
ends_here e (Ok (next.On q a)) k = absurd (k q a refl)
ends_here e (Ok next.Last) k = (path, refl)
ends_here e (Ok next.Dropped) k = (no_path, refl)
ends_here e (Err f) k = let w = refused_as_lem (refused_by (of_walk f)) (of_walk f) refl in (fault w.0 w.1, ap (turn_by e) w.2)

-- ---- the loop

abbrev pub stood : ℕ → ℕ → ℕ → Stand
stood p a h = record { place = p; adapter = a; hop_id = h }

abbrev row : ℕ → ℕ → ℕ → ℕ → ℕ → EntryRow
row p a h o g = record { device = p; adapter = a; in_hop = h; out_adapter = o; out_hop = g }

-- tables as loading leaves them, a start that is there, and a walk that ends after m hops, for which there is room
pub record Makes (tables : Tables) (s : Stand) (old : List ℕ) (m : ℕ) : Type 0 where
  pub sized : Sized tables
  pub tabled : Tabled tables
  pub there : s.place < length tables.devices.now
  pub ends : EndsAfter (walk_in tables) s m
  pub room : 1 + 2 * m ≤ length old

-- i hops are written, and the walk has come to y
pub record Wrote (tables : Tables) (s : Stand) (old : List ℕ) (i : ℕ) (y : Stand) (out : List ℕ) : Type 0 where
  pub reached : Reached (walk_in tables) s i y
  pub there : y.place < length tables.devices.now
  pub words : out ≡ so_far (get_or old 0 0) (hops_n (walk_in tables) s i) old

-- what the loop keeps: no word past the hops so far is changed, whatever the tables
pub record Kept (tables : Tables) (s : Stand) (old : List ℕ) (i p a h : ℕ) (out : List ℕ) : Type 0 where
  pub hop_id : h < 65536
  pub room : 1 + 2 * i ≤ length old
  pub long : length out ≡ length old
  pub tail : drop (1 + 2 * i) out ≡ drop (1 + 2 * i) old
  pub wrote : (m : ℕ) → Makes tables s old m → Wrote tables s old i (stood p a h) out

pub kept_start : (tables : Tables) (s : Stand) (old : List ℕ) → s.hop_id < 65536 → 1 ≤ length old → Kept tables s old 0 s.place s.adapter s.hop_id old
unfolding so_far hops_n hops_words
kept_start tables s old l room = record {
  hop_id = l;
  room = room;
  long = refl;
  tail = refl;
  wrote = λ m k. record { reached = reach_start (walk_in tables) s; there = k.there; words = drop-cons old 0 0 (omega arith) };
}

in_order : {tables : Tables} → Tabled tables → InOrder tables
in_order t = t.others

-- two words after the hops so far
two_long : (out : List ℕ) (i u v : ℕ) → length (set (set out (1 + 2 * i) u) (2 + 2 * i) v) ≡ length out
two_long out i u v = length-set (set out (1 + 2 * i) u) (2 + 2 * i) v ∙ length-set out (1 + 2 * i) u

two_tail : (out old : List ℕ) (i u v : ℕ) → drop (1 + 2 * i) out ≡ drop (1 + 2 * i) old → drop (1 + 2 * (i + 1)) (set (set out (1 + 2 * i) u) (2 + 2 * i) v) ≡ drop (1 + 2 * (i + 1)) old
two_tail out old i u v e =
    let k : 1 + 2 * (i + 1) ≡ 1 + 2 * i + 2 = omega arith in
    drop-set-lt (1 + 2 * (i + 1)) (set out (1 + 2 * i) u) (2 + 2 * i) v (omega arith) ∙ drop-set-lt (1 + 2 * (i + 1)) out (1 + 2 * i) u (omega arith)
    ∙ ap (λ j. drop j out) k ∙ sym (drop-drop 2 (1 + 2 * i) out) ∙ ap (drop 2) e ∙ drop-drop 2 (1 + 2 * i) old ∙ ap (λ j. drop j old) (sym k)

module _ (tables : Tables) (s : Stand) (old : List ℕ) where
  -- a walk that ends here has made all its hops
  done : (i : ℕ) (out : List ℕ) → 1 + 2 * i ≤ length old → length out ≡ length old → drop (1 + 2 * i) out ≡ drop (1 + 2 * i) old
      → ((m : ℕ) → Makes tables s old m → (i ≡ m) × (out ≡ so_far (get_or old 0 0) (hops_n (walk_in tables) s i) old)) → HopsPut tables s old i out
  done i out room long tail all = record { fits = room; long = long; tail = tail; words = λ z t l m e r. all m (record { sized = z; tabled = t; there = l; ends = e; room = r }) }

  module _ (i p a h : ℕ) (out : List ℕ) (k : Kept tables s old i p a h out) where
    -- there is no more room: nor has the walk more hops
    pub kept_full : (length old - 1) / 2 ≤ i → HopsPut tables s old i out
    kept_full l = done i out k.room k.long k.tail (λ m y. (whole m y (dec_lt m i), (k.wrote m y).words))
      where
        whole : (m : ℕ) → Makes tables s old m → Dec (m < i) → i ≡ m
        whole m y (yes q) = absurd (true≢false (sym ((k.wrote m y).reached.hops m q) ∙ y.ends.over))
        whole m y (no q) = omega (arith, y.room)

    -- an entry is sought for the next hop
    module _ (more : i < (length old - 1) / 2) (r : Option EntryOut) (f : EntrySought tables.entries.now p a h r) where
      found_hop : (m : ℕ) → Makes tables s old m → (walk_in tables).hop (stood p a h) ≡ entry_found p a h r
      unfolding walk_in walk_on rows_of
      found_hop m y = sym (f.first (omega (arith, (k.wrote m y).there, y.tabled.others.devices)) y.tabled.entries)

      pub kept_missing : r ≡ None → HopsPut tables s old i out
      unfolding entry_found
      kept_missing e = done i out k.room k.long k.tail
          (λ m y. (ends_once (walk_in tables) s (reach_stops (walk_in tables) s (k.wrote m y).reached (found_hop m y ∙ ap (entry_found p a h) e)).0 y.ends, (k.wrote m y).words))

      module _ (o g u v : ℕ) (e : r ≡ Some (entry_out o g)) (first : p < 4096 → u ≡ 10 * 268435456 + p * 65536 + a * 256 + o) (second : v ≡ h * 65536 + g) where
        abbrev out' : List ℕ
        out' = set (set out (1 + 2 * i) u) (2 + 2 * i) v

        hop_here : (m : ℕ) → Makes tables s old m → (walk_in tables).hop (stood p a h) ≡ Some (row p a h o g)
        unfolding entry_found
        hop_here m y = found_hop m y ∙ ap (entry_found p a h) e

        -- one more hop is written
        hop_written : (m : ℕ) → Makes tables s old m → out' ≡ so_far (get_or old 0 0) (hops_n (walk_in tables) s (i + 1)) old
        unfolding hop_words
        hop_written m y =
            so_far_more (get_or old 0 0) (hops_n (walk_in tables) s i) (row p a h o g) old out i u v (length_hops (walk_in tables) s i (k.wrote m y).reached.hops) (omega arith)
            (ap (λ z. z ∷ v ∷ []) (first (omega (arith, (k.wrote m y).there, y.sized.devices))) ∙ ap (λ z. (10 * 268435456 + p * 65536 + a * 256 + o) ∷ z ∷ []) second) (k.wrote m y).words
            ∙ ap (λ l. so_far (get_or old 0 0) l old) (sym (reach_hops (walk_in tables) s (k.wrote m y).reached (hop_here m y)))

        module _ (t : Result Next WalkError) (l : LeadsTo tables (λ x. leads x p o) t) where
          hop_turn : (m : ℕ) → Makes tables s old m → (walk_in tables).next (stood p a h) (row p a h o g) ≡ turn_by (row p a h o g) (next_outcome t)
          unfolding walk_in walk_on rows_of
          hop_turn m y = ap (turn_by _) (sym (leads_own l (in_order y.tabled)))

          pub kept_on : (q b : ℕ) → g < 65536 → t ≡ Ok (next.On q b) → Kept tables s old (i + 1) q b g out'
          unfolding next_outcome turn_by
          kept_on q b w x = record {
            hop_id = w;
            room = omega arith;
            long = two_long out i u v ∙ k.long;
            tail = two_tail out old i u v k.tail;
            wrote = λ m y. record {
              reached = reach_on (walk_in tables) s (k.wrote m y).reached (hop_here m y) (hop_turn m y ∙ ap (λ z. turn_by (row p a h o g) (next_outcome z)) x);
              there = there_below tables q (leads_there (rows_of tables) (upstreams tables) p o q b (sym (leads_own l (in_order y.tabled)) ∙ ap next_outcome x));
              words = hop_written m y;
            };
          }

          -- where it leads nowhere further it is the last
          pub kept_last : ((q b : ℕ) → t ≡ Ok (next.On q b) → ⊥) → HopsPut tables s old (i + 1) out'
          kept_last w = done (i + 1) out' (omega arith) (two_long out i u v ∙ k.long) (two_tail out old i u v k.tail)
              (λ m y.
              let x = ends_here (row p a h o g) t w in
              (ends_once (walk_in tables) s (reach_ends (walk_in tables) s (k.wrote m y).reached (hop_here m y) (hop_turn m y ∙ x.1)).0 y.ends, hop_written m y))
