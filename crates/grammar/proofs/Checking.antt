-- Laws on what a line leads to, and on what the lines of a text come to. Assumes nothing.
use Rattle.std.proofs.lemmas.Option.{same_Some}
use Rattle.std.specs.Prelude.{Err, None, Ok, Option, Result, Some}
use Prim.Native.Nat.{ℕ, ◌+◌, ◌-◌, ◌<◌, ◌≤◌}
use native.Mathlib.Omega.{arith}
use mathlib.Core.Path.{◌≡◌, refl, ◌∙◌, ap, sym}
use mathlib.Core.Bool.{true, false}
use mathlib.Core.List.{List, [], ◌∷◌}
use lib.ListN.{length, take, drop}
use borrow.Author.Tests.{lt-ltb, le-ltb}
use Rattle.refusal.specs.Outcome.{Outcome, refused, value, bind}
use Rattle.scan.specs.Scan.{is_line_feed, is_high, place_from}
use Rattle.register.specs.Line.{meaning}
use Rattle.register.specs.declared.Register.{Register}
use Rattle.register.specs.declared.Skip.{Skip}
use Rattle.markers.specs.Markers.{Marker, Marker.router, Marker.xdomain, Marker.usb4, Marker.regs, Marker.adapter, Marker.paths, Marker.no_paths, Marker.bad, is_marker, marker_of, marker_by}
use Rattle.markers.specs.declared.Mark.{Mark}
use Rattle.grammar.specs.Grammar.{Item, Item.marker, Item.record', Item.other, item_by, item_of, step_of, in_dump, item_step, marker_size, item_size, check_by, check_from, items_of, in_limit, check_answer}
use Rattle.grammar.specs.Work.{with_words, advance_of}
use Rattle.grammar.specs.declared.Under.{Under}
use Rattle.grammar.specs.declared.Under.TheVariants as under
use Rattle.grammar.specs.Work as advance
use Rattle.grammar.proofs.Laws.{items_at, items_end}
use Rattle.refusal.specs.Refusal.{outcome}
use Rattle.refusal.specs.declared.Refusal.{Refusal}
use Rattle.refusal.proofs.Laws.{ended, gone_on}

-- no byte is no marker
pub no_marker : (l : List ℕ) → length l < 1 → false ≡ is_marker l
unfolding is_marker
no_marker [] h = refl
no_marker (b ∷ l) h = absurd (omega arith)

-- where a line leads: a marker, a record, or another
module _ (l : List ℕ) (u : Under) where
  pub lead_marker : is_marker l ≡ true → (m : Mark) → marker_by m ≡ marker_of l → (n : ℕ) → n ≡ marker_size (marker_by m) → (s : Option Under) → s ≡ step_of (marker_by m) u → with_words n s ≡ advance_of l u
  unfolding advance_of item_of item_step item_size
  lead_marker t m e n p s q = simp (p, q, e, t)

  pub lead_record : is_marker l ≡ false → (r : Register) → meaning l ≡ Ok r → (s : Option Under) → s ≡ in_dump u → with_words 4 s ≡ advance_of l u
  unfolding advance_of item_of item_by item_step item_size
  lead_record t r e s q = simp (q, t, e)

  pub lead_other : is_marker l ≡ false → (w : Skip) → meaning l ≡ Err w → advance.on u 0 ≡ advance_of l u
  unfolding advance_of item_of item_by item_step item_size with_words
  lead_other t w e = simp (t, e)

-- the words of a line
marker_four : (m : Marker) → marker_size m ≤ 4
unfolding marker_size
marker_four (router d r) = omega arith
marker_four (xdomain d r) = omega arith
marker_four usb4 = omega arith
marker_four regs = omega arith
marker_four (adapter n) = omega arith
marker_four paths = omega arith
marker_four no_paths = omega arith
marker_four bad = omega arith

item_four : (i : Item) → item_size i ≤ 4
unfolding item_size
item_four (marker m) = marker_four m
item_four (record' r) = omega arith
item_four other = omega arith

-- a line that leads on, and one that is wrong
module _ (l : List ℕ) (u : Under) where
  pub words_four : (v : Under) (n : ℕ) → advance_of l u ≡ advance.on v n → n ≤ 4
  unfolding advance_of with_words
  words_four v n e = on (item_step (item_of l) u) e
    where
      on : (s : Option Under) → with_words (item_size (item_of l)) s ≡ advance.on v n → n ≤ 4
      on (Some w) e = let z : item_size (item_of l) ≡ n = ap (λ a. a.words) (same_Some _ _ e) in omega (arith, item_four (item_of l))
      on None e = let z : ◌≡◌ {A = ℕ} 0 1 = cc in omega arith

  pub check_on : (made : ℕ) (is : List Item) (v : Under) (n : ℕ) → advance_of l u ≡ advance.on v n → check_from made u (item_of l ∷ is) ≡ check_from (made + n) v is
  unfolding advance_of with_words check_from check_by
  check_on made is v n e = on (item_step (item_of l) u) e
    where
      on : (s : Option Under) → with_words (item_size (item_of l)) s ≡ advance.on v n → check_by made (λ w. check_from (made + item_size (item_of l)) w is) s ≡ check_from (made + n) v is
      on (Some w) e = let z : item_size (item_of l) ≡ n = ap (λ a. a.words) (same_Some _ _ e) in let y : w ≡ v = ap (λ a. a.under) (same_Some _ _ e) in rw (z, y)
      on None e = let z : ◌≡◌ {A = ℕ} 0 1 = cc in absurd (omega arith)

  pub check_wrong : (made : ℕ) (is : List Item) → advance_of l u ≡ None → check_from made u (item_of l ∷ is) ≡ refused 4 (made ∷ [])
  unfolding advance_of with_words check_from check_by
  check_wrong made is e = on (item_step (item_of l) u) e
    where
      on : (s : Option Under) → with_words (item_size (item_of l)) s ≡ None → check_by made (λ w. check_from (made + item_size (item_of l)) w is) s ≡ refused 4 (made ∷ [])
      on (Some w) e = let z : ◌≡◌ {A = ℕ} 0 1 = cc in absurd (omega arith)
      on None e = refl

-- one line more of a text: what is left gives the same
module _ (t : List ℕ) (at e : ℕ) (ends : e ≡ place_from is_line_feed t at) (here : at < length t) (made : ℕ) (u : Under) {w : Outcome ℕ} (same : check_from made u (items_of (drop at t)) ≡ w) where
  pub turn_on : (v : Under) (n : ℕ) → advance_of (take (e - at) (drop at t)) u ≡ advance.on v n → check_from (made + n) v (items_of (drop (e + 1) t)) ≡ w
  turn_on v n q = sym (ap (λ is. check_from made u is) (items_at t at e ends here) ∙ check_on (take (e - at) (drop at t)) u made (items_of (drop (e + 1) t)) v n q) ∙ same

  pub turn_wrong : advance_of (take (e - at) (drop at t)) u ≡ None → refused 4 (made ∷ []) ≡ w
  turn_wrong q = sym (ap (λ is. check_from made u is) (items_at t at e ends here) ∙ check_wrong (take (e - at) (drop at t)) u made (items_of (drop (e + 1) t)) q) ∙ same

-- no line more
pub turn_end : (t : List ℕ) (at : ℕ) → length t ≤ at → (made : ℕ) (u : Under) {w : Outcome ℕ} → check_from made u (items_of (drop at t)) ≡ w → value made ≡ w
unfolding check_from
turn_end t at h made u same = sym (ap (λ is. check_from made u is) (items_end t at h)) ∙ same

-- a survey has at most 16,384 words
over_limit : (n : ℕ) → 16384 < n → in_limit n ≡ refused 4 (16384 ∷ [])
unfolding in_limit
over_limit n h = simp (lt-ltb 16384 n h)

within_limit : (n : ℕ) → n ≤ 16384 → in_limit n ≡ value n
unfolding in_limit
within_limit n h = simp (le-ltb 16384 n h)

-- what a text comes to: its length, a byte above 127, its lines
module _ (t : List ℕ) where
  pub too_long : 65536 < length t → refused 2 (length t ∷ []) ≡ check_answer t
  unfolding check_answer
  too_long h = simp (lt-ltb 65536 (length t) h)

  module _ (short : length t ≤ 65536) (p : ℕ) (first : p ≡ place_from is_high t 0) where
    pub not_ascii : p < length t → refused 1 (p ∷ []) ≡ check_answer t
    unfolding check_answer
    not_ascii h = simp (le-ltb 65536 (length t) short, sym first, lt-ltb p (length t) h)

    module _ (ascii : length t ≤ p) (r : Result ℕ Refusal) (all : outcome r ≡ check_from 0 under.Nothing (items_of t)) where
      by_lines : bind (outcome r) in_limit ≡ check_answer t
      unfolding check_answer
      by_lines = simp (le-ltb 65536 (length t) short, sym first, le-ltb p (length t) ascii, all)

      pub wrong_line : (e : Refusal) → r ≡ Err e → outcome (Err e) ≡ check_answer t
      wrong_line e k = ended r (outcome r) refl in_limit e k ∙ by_lines

      pub many_words : (n : ℕ) → r ≡ Ok n → 16384 < n → refused 4 (16384 ∷ []) ≡ check_answer t
      many_words n e h = sym (gone_on r (outcome r) refl in_limit n e ∙ over_limit n h) ∙ by_lines

      pub all_words : (n : ℕ) → r ≡ Ok n → n ≤ 16384 → value n ≡ check_answer t
      all_words n e h = sym (gone_on r (outcome r) refl in_limit n e ∙ within_limit n h) ∙ by_lines
