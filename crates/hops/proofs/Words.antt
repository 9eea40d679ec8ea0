-- The records of a path's words: the hops of an accepted survey, read back from the words that the core writes of them. Assumes nothing.
use Rattle.std.specs.Option.{option_to_list}
use Prim.Native.Nat.{ℕ, zero, suc, ◌+◌, ◌*◌, ◌-◌, ◌/◌, ◌%◌, ◌≤◌, ◌<◌}
use native.Mathlib.Omega.{arith}
use mathlib.Core.Path.{◌≡◌, refl, sym, ap, ◌∙◌, subst}
use mathlib.Core.Bool.{Bool, true, false, cond, ◌&&◌}
use mathlib.Core.List.{List, [], ◌∷◌, ◌++◌, map}
use Rattle.std.specs.Prelude.{Option, None, Some}
use Rattle.std.proofs.lemmas.Option.{none-some}
use lib.Dec.{eqb}
use lib.ListN.{length, get_or, take, drop, set, length-append, length-map, length-drop, length-set, get_or-map}
use lib.Seq.{take-suc, take_at, drop_at, drop-drop, set_split, append_snoc, length-take-le, take-length}
use Rattle.refusal.specs.Outcome.{value}
use Rattle.tables.specs.Rows.{EntryRow, Rows, entry_in}
use Rattle.load.specs.Loading.{valid_entries, loaded}
use Rattle.orbit.specs.Walk.{Spot, Spot.stand, Spot.ended, Spot.stopped, walk_n, hops_n, hop_at as hop_here}
use Rattle.orbit.proofs.Orbit.{ends_within}
use Rattle.walk.specs.Walking.{End, walk_on}
use Rattle.walk.specs.Rule.{walk_from}
use Rattle.walk.proofs.Laws.{ranked, Hopped, hopped}
use Rattle.path.specs.Words.{hop_words, hops_words, path_words, words_needed, with_path}
use Rattle.hops.specs.Records.{record_of, with_records}
use Rattle.hops.specs.Records.{hop_at, filled}
use Rattle.hops.specs.declared.Hop.{Hop}
use Rattle.hops.proofs.Bounds.{Fits, AllFit, fit_append, entries_fit, entries_few}
use Rattle.tables.specs.declared.Stand.{Stand}

-- ---- a walk's hops are entries

entry_fits : (es : List EntryRow) (p a h : ℕ) (e : EntryRow) → AllFit es → entry_in es p a h ≡ Some e → Fits e
unfolding entry_in
entry_fits [] p a h e f q = absurd (none-some e q)
entry_fits (y ∷ es) p a h e f q = go (eqb y.device p && eqb y.adapter a && eqb y.in_hop h) (λ r. entry_fits es p a h e f.1 r) q
  where
    go : (b : Bool) → (entry_in es p a h ≡ Some e → Fits e) → cond b (Some y) (entry_in es p a h) ≡ Some e → Fits e
    go true ih r = let z : y ≡ e = cc in subst Fits z f.0
    go false ih r = ih r

module _ (x : Rows) (f : AllFit x.entries) where
  here_fits : (z : Spot Stand End) → AllFit (hop_here (walk_on x) z)
  unfolding hop_here walk_on
  here_fits (stand y) = go (entry_in x.entries y.place y.adapter y.hop_id) refl
    where
      go : (o : Option EntryRow) → entry_in x.entries y.place y.adapter y.hop_id ≡ o → AllFit (option_to_list o)
      go None e = omega arith
      go (Some h) e = (entry_fits x.entries _ _ _ h f e, omega arith)
  here_fits (ended e) = omega arith
  here_fits stopped = omega arith

  hops_fit : (s : Stand) (n : ℕ) → AllFit (hops_n (walk_on x) s n)
  unfolding hops_n
  hops_fit s zero = omega arith
  hops_fit s (suc n) = fit_append (hops_n (walk_on x) s n) (hop_here (walk_on x) (walk_n (walk_on x) s n)) (hops_fit s n) (here_fits (walk_n (walk_on x) s n))

-- a path of an accepted survey: the words have room for its hops, and 8,193 for it
pub record Path (hs : List EntryRow) : Type 0 where
  pub fit : AllFit hs
  pub few : length hs ≤ 4096

pub walk_path : (t v : List ℕ) (x : Rows) (s : Stand) (hs : List EntryRow) → loaded t v ≡ value x → walk_from x s ≡ value (Some hs) → Path hs
walk_path t v x s hs l q = record {
  fit = subst AllFit h.hops (hops_fit x (entries_fit t v x l) s h.count);
  few = omega (arith, h.long, ends_within (walk_on x) (valid_entries x) (ranked x) s h.ends, entries_few t v x l);
}
  where
    h : Hopped x s hs
    h = hopped x s hs q

-- ---- a hop, read back from its words

abbrev first : EntryRow → ℕ
first e = 10 * 268435456 + e.device * 65536 + e.adapter * 256 + e.out_adapter

abbrev second : EntryRow → ℕ
second e = e.in_hop * 65536 + e.out_hop

numbers : (p a i o h u v : ℕ) → u ≡ 10 * 268435456 + p * 65536 + a * 256 + o → v ≡ i * 65536 + h → a < 256 → i < 65536 → o < 256 → h < 65536
    → (u / 65536 - 40960 ≡ p) × (u / 256 % 256 ≡ a) × (v / 65536 ≡ i) × (u % 256 ≡ o) × (v % 65536 ≡ h)
numbers p a i o h u v e f ka ki ko kh = (omega arith, omega arith, omega arith, omega arith, omega arith)

pub hop_made : (ws : List ℕ) (i p u v : ℕ) → p ≡ u / 65536 - 40960 → u ≡ get_or ws (1 + 2 * i) 0 → v ≡ get_or ws (2 + 2 * i) 0
    → record { place = p; in_adapter = u / 256 % 256; in_hop = v / 65536; out_adapter = u % 256; out_hop = v % 65536 } ≡ hop_at ws i
unfolding hop_at
hop_made ws i p u v e f g = rw (e, f, g) refl

hop_read : (ws : List ℕ) (i : ℕ) (e : EntryRow) → Fits e → get_or ws (1 + 2 * i) 0 ≡ first e → get_or ws (2 + 2 * i) 0 ≡ second e → hop_at ws i ≡ record_of e
unfolding hop_at record_of
hop_read ws i e k f g =
    let n = numbers e.device e.adapter e.in_hop e.out_adapter e.out_hop _ _ f g k.adapter k.in_hop k.out_adapter k.out_hop in
    λ j. record { place = n.0 j; in_adapter = n.1 j; in_hop = n.2 j; out_adapter = n.3 j; out_hop = n.4 j }

-- the words of hop i
words_at : (hs : List EntryRow) (rest : List ℕ) (i : ℕ) (d : EntryRow) → i < length hs → (get_or (hops_words hs ++ rest) (2 * i) 0 ≡ first (get_or hs i d)) × (get_or (hops_words hs ++ rest) (suc (2 * i)) 0 ≡ second (get_or hs i d))
unfolding hops_words hop_words
words_at [] rest i d l = absurd (omega arith)
words_at (h ∷ hs) rest zero d l = (refl, refl)
words_at (h ∷ hs) rest (suc i) d l =
    let k : 2 * suc i ≡ suc (suc (2 * i)) = omega arith in
    let z = words_at hs rest i d (omega arith) in
    (ap (λ n. get_or (first h ∷ second h ∷ (hops_words hs ++ rest)) n 0) k ∙ z.0, ap (λ n. get_or (first h ∷ second h ∷ (hops_words hs ++ rest)) (suc n) 0) k ∙ z.1)

fits_at : (hs : List EntryRow) (i : ℕ) (d : EntryRow) → AllFit hs → i < length hs → Fits (get_or hs i d)
fits_at [] i d f l = absurd (omega arith)
fits_at (h ∷ hs) zero d f l = f.0
fits_at (h ∷ hs) (suc i) d f l = fits_at hs i d f.1 (omega arith)

pub path_hop : (name : ℕ) (hs : List EntryRow) (old : List ℕ) (i : ℕ) (d : EntryRow) → AllFit hs → i < length hs → hop_at (with_path name hs old) i ≡ record_of (get_or hs i d)
unfolding with_path path_words
path_hop name hs old i d f l =
    let z = words_at hs (drop (words_needed name hs) old) i d l in
    hop_read (with_path name hs old) i (get_or hs i d) (fits_at hs i d f l)
    (ap (λ n. get_or (with_path name hs old) n 0) (let k : 1 + 2 * i ≡ suc (2 * i) = omega arith in k) ∙ z.0)
    (ap (λ n. get_or (with_path name hs old) n 0) (let k : 2 + 2 * i ≡ suc (suc (2 * i)) = omega arith in k) ∙ z.1)

-- ---- a filled list

pub length_filled : (ws : List ℕ) (n : ℕ) (l : List Hop) → length (filled ws n l) ≡ length l
unfolding filled
length_filled ws zero l = refl
length_filled ws (suc n) l = length-set (filled ws n l) n (hop_at ws n) ∙ length_filled ws n l

module _ (ws : List ℕ) (new old : List Hop) (long : length new ≤ length old) (d : Hop) (same : (i : ℕ) → i < length new → hop_at ws i ≡ get_or new i d) where
  filled_front : (k : ℕ) → k ≤ length new → filled ws k old ≡ take k new ++ drop k old
  unfolding filled
  filled_front zero l = refl
  filled_front (suc k) l =
      let ih = filled_front k (omega arith) in
      let t : length (take k new) ≡ k = length-take-le k new (omega arith) in
      ap (λ z. set z k (hop_at ws k)) ih
      ∙ set_split (take k new ++ drop k old) k (hop_at ws k) (omega (arith, length-append (take k new) (drop k old), length-drop k old))
      ∙ ap (λ z. z ++ hop_at ws k ∷ drop (suc k) (take k new ++ drop k old)) (take_at (take k new) (drop k old) k t)
      ∙ ap (λ z. take k new ++ hop_at ws k ∷ z) (past ∙ ap (λ n. drop n old) (let n : k + 1 ≡ suc k = omega arith in n))
      ∙ ap (λ z. take k new ++ z ∷ drop (suc k) old) (same k (omega arith))
      ∙ sym (append_snoc (take k new) (get_or new k d) (drop (suc k) old))
      ∙ ap (λ z. z ++ drop (suc k) old) (sym (take-suc new k d (omega arith)))
    where
      past : drop (suc k) (take k new ++ drop k old) ≡ drop (k + 1) old
      past =
          ap (λ n. drop n (take k new ++ drop k old)) (let n : suc k ≡ k + 1 = omega arith in n)
          ∙ sym (drop-drop 1 k (take k new ++ drop k old))
          ∙ ap (drop 1) (drop_at (take k new) (drop k old) k (length-take-le k new (omega arith)))
          ∙ drop-drop 1 k old

  filled_all : filled ws (length new) old ≡ new ++ drop (length new) old
  filled_all = filled_front (length new) (omega arith) ∙ ap (λ z. z ++ drop (length new) old) (take-length new)

-- the records that a path's words fill are its hops
pub filled_path : (name : ℕ) (hs : List EntryRow) (ws : List ℕ) (old : List Hop) → AllFit hs → length hs ≤ length old → filled (with_path name hs ws) (length hs) old ≡ with_records hs old
unfolding with_records
filled_path name hs ws old f l =
    let m : length (map record_of hs) ≡ length hs = length-map hs record_of in
    ap (λ n. filled (with_path name hs ws) n old) (sym m)
    ∙ filled_all (with_path name hs ws) (map record_of hs) old (omega (arith, m)) (record_of none_there)
    (λ i k. path_hop name hs ws i none_there f (omega (arith, m)) ∙ sym (get_or-map record_of hs i none_there))
    ∙ ap (λ n. map record_of hs ++ drop n old) m
  where
    none_there : EntryRow
    none_there = record { device = 0; adapter = 0; in_hop = 0; out_adapter = 0; out_hop = 0 }
