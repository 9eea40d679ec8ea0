-- Laws on lines that are no markers, and on the sections of a text. Assumes nothing.
use Rattle.std.specs.Prelude.{Err, Ok, Result}
use Prim.Native.Nat.{ℕ, suc, ◌+◌, ◌-◌, ◌<◌, ◌≤◌}
use native.Mathlib.Omega.{arith}
use native.Mathlib.Nat.{add-zero}
use native.Mathlib.Decide.{dec_lt}
use mathlib.Core.Path.{◌≡◌, refl, ◌∙◌, ap, sym}
use mathlib.Core.Bool.{Bool, true, false, cond}
use mathlib.Core.List.{List, [], ◌∷◌, ◌++◌, append_assoc, append-nil}
use lib.Dec.{eqb}
use lib.ListN.{length, take, drop, get_or, length-drop, length-append}
use lib.Seq.{take_all, take-add, take-suc, take_at, drop-append-add, drop-drop, get_or-take, get_or-drop, length-take-le}
use borrow.Author.Tests.{ne_eqb, eqb-true}
use Rattle.scan.specs.Scan.{lines, is_line_feed, before, place_from}
use Rattle.scan.proofs.Laws.{stops, line_at, lines_end, place_above, place_within, place_on}
use Rattle.register.specs.Line.{meaning}
use Rattle.register.specs.declared.Register.{Register}
use Rattle.room.specs.Records.{with_record, records_of as dump_records}
use Rattle.markers.specs.Markers.{is_marker, marker_of}
use Rattle.grammar.specs.Grammar.{Item, Item.marker, item_by, item_of, items_of}
use Rattle.grammar.proofs.Laws.{items_at, items_end}
use Rattle.text.specs.Text.{records_of, sections_of}
use Rattle.text.specs.Work.{sections_from, records_from, part_of, Skipped}
use Rattle.register.specs.declared.Skip.{Skip}

pub sections_end : (t : List ℕ) (at : ℕ) → length t ≤ at → sections_from t at ≡ []
unfolding sections_from sections_of
sections_end t at h = ap sections_of (items_end t at h)

records_end : (t : List ℕ) (at : ℕ) → length t ≤ at → records_from t at ≡ []
unfolding records_from records_of
records_end t at h = ap records_of (items_end t at h)

-- the first byte of a line
first_byte : (t : List ℕ) (at e : ℕ) → at < e → get_or (take (e - at) (drop at t)) 0 0 ≡ get_or t at 0
first_byte t at e h = get_or-take (e - at) (drop at t) 0 0 (omega arith) ∙ get_or-drop at t 0 0 ∙ ap (λ n. get_or t n 0) (add-zero at)

no_marker : (t : List ℕ) (at e : ℕ) → at ≤ e → (get_or t at 0 ≡ 64 → ⊥) → is_marker (take (e - at) (drop at t)) ≡ false
unfolding is_marker
no_marker t at e a h = go (dec_lt at e)
  where
    go : Dec (at < e) → eqb (get_or (take (e - at) (drop at t)) 0 0) 64 ≡ false
    go (yes l) = ap (λ b. eqb b 64) (first_byte t at e l) ∙ ne_eqb _ _ h
    go (no l) = let z : e - at ≡ 0 = omega arith in ap (λ n. eqb (get_or (take n (drop at t)) 0 0) 64) z

pub is_marker_lem : (t : List ℕ) (at e : ℕ) → e ≡ place_from is_line_feed t at → at < length t → get_or t at 0 ≡ 64 → (at < e) × (is_marker (take (e - at) (drop at t)) ≡ true)
unfolding is_marker is_line_feed
is_marker_lem t at e q h f =
    let l : at < e = omega (arith, q ∙ place_on is_line_feed t at h (ap (λ b. eqb b 10) f), place_above is_line_feed t (at + 1)) in
    (l, ap (λ b. eqb b 64) (first_byte t at e l ∙ f))

-- a line that is no marker has no section, and a record or none
item_sections : (m : Result Register Skip) (is : List Item) → sections_of (item_by m ∷ is) ≡ sections_of is
unfolding item_by sections_of
item_sections (Ok r) is = refl
item_sections (Err w) is = refl

item_records : (m : Result Register Skip) (is : List Item) → records_of (item_by m ∷ is) ≡ with_record m (records_of is)
unfolding item_by records_of with_record
item_records (Ok r) is = refl
item_records (Err w) is = refl

item_plain : (l : List ℕ) → is_marker l ≡ false → item_of l ≡ item_by (meaning l)
unfolding item_of
item_plain l h = simp h

item_marker : (l : List ℕ) → is_marker l ≡ true → item_of l ≡ marker (marker_of l)
unfolding item_of
item_marker l h = simp h

-- the records of lines and of more lines
with_append : (m : Result Register Skip) (a b : List Register) → with_record m (a ++ b) ≡ with_record m a ++ b
unfolding with_record
with_append (Ok r) a b = refl
with_append (Err w) a b = refl

pub records_append : (ls ms : List (List ℕ)) → dump_records (ls ++ ms) ≡ dump_records ls ++ dump_records ms
unfolding dump_records
records_append [] ms = refl
records_append (l ∷ ls) ms = ap (λ q. with_record (meaning l) q) (records_append ls ms) ∙ with_append (meaning l) (dump_records ls) (dump_records ms)

-- a cut line ends where it did
before_cut : (p : ℕ → Bool) (s : List ℕ) (x : ℕ) (q : List ℕ) → p x ≡ true → before p s < length s → before p (take (before p s) s ++ (x ∷ q)) ≡ before p s
unfolding before
before_cut p [] x q e h = absurd (omega arith)
before_cut p (b ∷ s) x q e h = step (p b) refl h (λ k. before_cut p s x q e k)
  where
    step : (t : Bool) → p b ≡ t → cond t 0 (suc (before p s)) < suc (length s) → (before p s < length s → before p (take (before p s) s ++ (x ∷ q)) ≡ before p s) → before p (take (cond t 0 (suc (before p s))) (b ∷ s) ++ (x ∷ q)) ≡ cond t 0 (suc (before p s))
    step true f h ih = simp e
    step false f h ih = simp f (ap suc (ih (omega arith)))

-- a line that LF ends, before any text
module _ (t : List ℕ) (at e : ℕ) (ends : e ≡ place_from is_line_feed t at) (inside : e < length t) where
  above : at ≤ e
  above = rw ends (place_above is_line_feed t at)

  long : length (take (e - at) (drop at t)) ≡ e - at
  long = length-take-le (e - at) (drop at t) (omega (arith, length-drop at t, above))

  cut : (q : List ℕ) → length (take (e - at) (drop at t)) ≡ place_from is_line_feed (take (e - at) (drop at t) ++ (10 ∷ q)) 0
  unfolding place_from is_line_feed
  cut q =
      let n : before is_line_feed (drop at t) ≡ e - at = omega (arith, ends) in
      let b = before_cut is_line_feed (drop at t) 10 q lf (omega (arith, length-drop at t, above)) in
      long ∙ sym n ∙ sym (ap (λ k. before is_line_feed (take k (drop at t) ++ (10 ∷ q))) (sym n) ∙ b) ∙ sym (zero_add' _)
    where
      lf : is_line_feed 10 ≡ true
      lf = refl

      zero_add' : (n : ℕ) → 0 + n ≡ n
      zero_add' n = omega arith

  pub line_cons : (q : List ℕ) → lines (take (e - at) (drop at t) ++ (10 ∷ q)) ≡ take (e - at) (drop at t) ∷ lines q
  line_cons q =
      let l = take (e - at) (drop at t) in
      line_at (l ++ (10 ∷ q)) 0 (length l) (cut q) (omega (arith, length-append l (10 ∷ q)))
      ∙ ap (λ u. u ∷ lines (drop (length l + 1) (l ++ (10 ∷ q)))) (take_at l (10 ∷ q) (length l - 0) (omega arith))
      ∙ ap (λ u. l ∷ lines u) (drop-append-add l (10 ∷ q) 1)

-- LF stands where a line ends before the text does
feed_at : (t : List ℕ) (at e : ℕ) → e ≡ place_from is_line_feed t at → e < length t → get_or t e 0 ≡ 10
unfolding place_from is_line_feed
feed_at t at e q h =
    let n : at + before is_line_feed (drop at t) ≡ e = sym q in
    eqb-true (get_or t e 0) 10 (sym (ap (λ b. eqb b 10) (get_or-drop at t (before is_line_feed (drop at t)) 0 ∙ ap (λ x. get_or t x 0) n)) ∙ stops is_line_feed (drop at t) (omega (arith, length-drop at t)))

-- ---- lines skipped one after another

-- a part from one place to another, and on to a third
part_more : (t : List ℕ) (i j k : ℕ) → i ≤ j → j ≤ k → part_of t i k ≡ part_of t i j ++ take (k - j) (drop j t)
part_more t i j k a b =
    let n : k - i ≡ (j - i) + (k - j) = omega arith in
    let m : i + (j - i) ≡ j = omega arith in
    ap (λ x. take x (drop i t)) n ∙ take-add (j - i) (k - j) (drop i t) ∙ ap (λ q. take (j - i) (drop i t) ++ take (k - j) q) (drop-drop (j - i) i t ∙ ap (λ x. drop x t) m)

-- i to j are whole lines, none of them a marker
pub record Skips (t : List ℕ) (i j : ℕ) : Type 0 where
  pub above : i ≤ j
  pub within : j ≤ length t
  pub sections : sections_from t i ≡ sections_from t j
  pub records : records_from t i ≡ dump_records (lines (part_of t i j)) ++ records_from t j
  pub closed : (q : List ℕ) → lines (part_of t i j ++ q) ≡ lines (part_of t i j) ++ lines q

lines_nil : lines [] ≡ []
lines_nil = lines_end [] 0 (omega arith)

none_of : (t : List ℕ) (i : ℕ) → part_of t i i ≡ []
none_of t i = let z : i - i ≡ 0 = omega arith in ap (λ n. take n (drop i t)) z

pub skips_start : (t : List ℕ) (i : ℕ) → i ≤ length t → Skips t i i
unfolding dump_records
skips_start t i h =
    let l : lines (part_of t i i) ≡ [] = ap (λ p. lines p) (none_of t i) ∙ lines_nil in
    record {
      above = omega arith;
      within = h;
      sections = refl;
      records = sym (ap (λ ls. dump_records ls ++ records_from t i) l);
      closed = λ q. ap (λ p. lines (p ++ q)) (none_of t i) ∙ sym (ap (λ ls. ls ++ lines q) l);
    }

-- one line more that is no marker
module _ (t : List ℕ) (i j e : ℕ) (s : Skips t i j) (here : j < length t) (plain : get_or t j 0 ≡ 64 → ⊥) (ends : e ≡ place_from is_line_feed t j) where
  past : j ≤ e
  past = rw ends (place_above is_line_feed t j)

  whole : e ≤ length t
  whole = rw ends (place_within is_line_feed t j (omega arith))

  items_plain : items_of (drop j t) ≡ item_by (meaning (take (e - j) (drop j t))) ∷ items_of (drop (e + 1) t)
  items_plain = items_at t j e ends here ∙ ap (λ x. x ∷ items_of (drop (e + 1) t)) (item_plain (take (e - j) (drop j t)) (no_marker t j e past plain))

  sections_on : sections_from t j ≡ sections_from t (e + 1)
  unfolding sections_from
  sections_on = ap sections_of items_plain ∙ item_sections _ _

  records_on : records_from t j ≡ dump_records (take (e - j) (drop j t) ∷ []) ++ records_from t (e + 1)
  unfolding records_from dump_records
  records_on = ap records_of items_plain ∙ item_records _ _ ∙ with_append (meaning (take (e - j) (drop j t))) [] (records_of (items_of (drop (e + 1) t)))

  -- by the lines of the longer part
  records_by_lem : (k : ℕ) → lines (part_of t i k) ≡ lines (part_of t i j) ++ (take (e - j) (drop j t) ∷ []) → records_from t i ≡ dump_records (lines (part_of t i k)) ++ records_from t (e + 1)
  records_by_lem k f =
      s.records ∙ ap (λ q. dump_records (lines (part_of t i j)) ++ q) records_on
      ∙ sym (append_assoc (dump_records (lines (part_of t i j))) (dump_records (take (e - j) (drop j t) ∷ [])) (records_from t (e + 1)))
      ∙ ap (λ q. q ++ records_from t (e + 1)) (sym (records_append (lines (part_of t i j)) (take (e - j) (drop j t) ∷ [])) ∙ ap (λ ls. dump_records ls) (sym f))

  -- LF ends it
  module _ (inside : e < length t) where
    feed : get_or t e 0 ≡ 10
    feed = feed_at t j e ends inside

    longer : part_of t i (e + 1) ≡ part_of t i j ++ (take (e - j) (drop j t) ++ (10 ∷ []))
    longer =
        let n : e + 1 - j ≡ suc (e - j) = omega (arith, past) in
        let m : j + (e - j) ≡ e = omega (arith, past) in
        part_more t i j (e + 1) s.above (omega (arith, past))
        ∙ ap (λ x. part_of t i j ++ take x (drop j t)) n
        ∙ ap (λ q. part_of t i j ++ q) (take-suc (drop j t) (e - j) 0 (omega (arith, length-drop j t, past)) ∙ ap (λ b. take (e - j) (drop j t) ++ (b ∷ [])) (get_or-drop j t (e - j) 0 ∙ ap (λ x. get_or t x 0) m ∙ feed))

    lines_longer : (q : List ℕ) → lines (part_of t i (e + 1) ++ q) ≡ lines (part_of t i j) ++ (take (e - j) (drop j t) ∷ lines q)
    lines_longer q =
        ap (λ p. lines (p ++ q)) longer
        ∙ ap (λ p. lines p) (append_assoc (part_of t i j) (take (e - j) (drop j t) ++ (10 ∷ [])) q ∙ ap (λ p. part_of t i j ++ p) (append_assoc (take (e - j) (drop j t)) (10 ∷ []) q))
        ∙ s.closed (take (e - j) (drop j t) ++ (10 ∷ q))
        ∙ ap (λ ls. lines (part_of t i j) ++ ls) (line_cons t j e ends inside q)

    lines_part : lines (part_of t i (e + 1)) ≡ lines (part_of t i j) ++ (take (e - j) (drop j t) ∷ [])
    lines_part = ap (λ p. lines p) (sym (append-nil (part_of t i (e + 1)))) ∙ lines_longer [] ∙ ap (λ ls. lines (part_of t i j) ++ (take (e - j) (drop j t) ∷ ls)) lines_nil

    pub skips_more : Skips t i (e + 1)
    skips_more = record {
      above = omega (arith, s.above, past);
      within = omega arith;
      sections = s.sections ∙ sections_on;
      records = records_by_lem (e + 1) lines_part;
      closed = λ q. lines_longer q ∙ sym (ap (λ ls. ls ++ lines q) lines_part ∙ append_assoc (lines (part_of t i j)) (take (e - j) (drop j t) ∷ []) (lines q));
    }

  -- the text's end does
  module _ (last : length t ≤ e) where
    lines_last : lines (drop j t) ≡ take (e - j) (drop j t) ∷ []
    lines_last = line_at t j e ends here ∙ ap (λ ls. take (e - j) (drop j t) ∷ ls) (lines_end t (e + 1) (omega arith))

    lines_all : lines (part_of t i (length t)) ≡ lines (part_of t i j) ++ (take (e - j) (drop j t) ∷ [])
    lines_all =
        ap (λ p. lines p) (part_more t i j (length t) s.above s.within ∙ ap (λ q. part_of t i j ++ q) (take_all (length t - j) (drop j t) (omega (arith, length-drop j t))))
        ∙ s.closed (drop j t) ∙ ap (λ ls. lines (part_of t i j) ++ ls) lines_last

    pub skipped_last : Skipped t i (length t)
    skipped_last = record {
      above = omega (arith, s.above);
      within = omega arith;
      sections = s.sections ∙ sections_on ∙ sections_end t (e + 1) (omega arith) ∙ sym (sections_end t (length t) (omega arith));
      records = records_by_lem (length t) lines_all ∙ ap (λ q. dump_records (lines (part_of t i (length t))) ++ q) (records_end t (e + 1) (omega arith)) ∙ append-nil _;
      stands = λ h. absurd (omega arith);
    }

-- a marker line: its section, of the records after it
module _ (t : List ℕ) (at e : ℕ) (ends : e ≡ place_from is_line_feed t at) (here : at < length t) (mark : get_or t at 0 ≡ 64) where
  items_marker : items_of (drop at t) ≡ marker (marker_of (take (e - at) (drop at t))) ∷ items_of (drop (e + 1) t)
  items_marker = items_at t at e ends here ∙ ap (λ x. x ∷ items_of (drop (e + 1) t)) (item_marker (take (e - at) (drop at t)) (is_marker_lem t at e ends here mark).1)

  pub section_here : sections_from t at ≡ record { head = marker_of (take (e - at) (drop at t)); records = records_from t (e + 1) } ∷ sections_from t (e + 1)
  unfolding sections_from records_from sections_of
  section_here = ap sections_of items_marker

  records_here : records_from t at ≡ []
  unfolding records_from records_of
  records_here = ap records_of items_marker

-- the next marker was met
pub skipped_marker : (t : List ℕ) (i j : ℕ) → Skips t i j → j < length t → get_or t j 0 ≡ 64 → Skipped t i j
skipped_marker t i j s h m = record {
  above = s.above;
  within = s.within;
  sections = s.sections;
  records = s.records ∙ ap (λ q. dump_records (lines (part_of t i j)) ++ q) (records_here t j (place_from is_line_feed t j) refl h m) ∙ append-nil _;
  stands = λ _. m;
}

-- or the end
pub skipped_end : (t : List ℕ) (i j : ℕ) → Skips t i j → length t ≤ j → Skipped t i j
skipped_end t i j s h = record {
  above = s.above;
  within = s.within;
  sections = s.sections;
  records = s.records ∙ ap (λ q. dump_records (lines (part_of t i j)) ++ q) (records_end t j h) ∙ append-nil _;
  stands = λ k. absurd (omega arith);
}
