-- What is said of a walk: the words of its path, and 13. Assumes nothing.
use Prim.Native.Nat.{ℕ, ◌+◌, ◌*◌, ◌≤◌, ◌<◌}
use native.Mathlib.Omega.{arith}
use mathlib.Core.Path.{◌≡◌, refl, sym, ap, ◌∙◌, subst}
use mathlib.Core.Logic.{◌↔◌, ⊎_elim}
use mathlib.Core.Bool.{Bool, true, false, cond, true≢false}
use mathlib.Core.List.{List, [], ◌∷◌}
use Rattle.std.specs.Prelude.{Option, None, Some}
use lib.Dec.{ltb}
use lib.ListN.{length, get_or}
use borrow.Author.Tests.{lt-ltb, ltb-false}
use Rattle.refusal.specs.Outcome.{Outcome, refused, value, bind}
use Rattle.tables.specs.Rows.{EntryRow, Rows}
use Rattle.orbit.specs.Walk.{Spot, Spot.stand, Spot.ended, Spot.stopped, going, walk_n, hops_n, Never, Again}
use Rattle.tables.specs.declared.Stand.{Stand}
use Rattle.walk.specs.Walking.{End, End.path, End.no_path, End.fault, walk_on, path_of}
use Rattle.walk.specs.Rule.{settled, in_room, walk_fault, WalkRule}
use Rattle.path.specs.Words.{words_needed}
use Rattle.path.proofs.Writing.{length_path_words}
use Rattle.walks.specs.Calls.{single}
use Rattle.answers.specs.Said.{padded, said, words_in, perhaps}
use Rattle.replies.specs.Replies.{hop_count_words}
use Rattle.export.specs.Exported.{path_size}

-- words as the output has room for them are counted by 64 bits
words_counted : (hs : List EntryRow) (room : ℕ) → room < 18446744073709551616 → words_needed single hs ≤ room → hop_count_words (length hs) ≡ path_size (length hs)
unfolding hop_count_words path_size
words_counted hs room h k =
    let n = length_path_words single hs in
    let l = lt-ltb (length hs) 9223372036854775808 (omega (arith, n)) in
    ap (λ b. cond b (1 + 2 * length hs) 0 ∷ []) l

by_room : (hs : List EntryRow) (room : ℕ) → room < 18446744073709551616 → (b : Bool) → ltb room (words_needed single hs) ≡ b
    → perhaps hop_count_words (cond b (refused 2 (words_needed single hs ∷ [])) (value (Some (length hs)))) ≡ perhaps path_size (cond b (refused 2 (words_needed single hs ∷ [])) (value (Some (length hs))))
unfolding perhaps words_in bind
by_room hs room h true e = refl
by_room hs room h false e = ap (λ ws. value (Some ws)) (words_counted hs room h (omega (arith, ltb-false room (words_needed single hs) e)))

-- the words of a path by its number of hops
pub path_words_lem : (o : Outcome (Option (List EntryRow))) (room : ℕ) → room < 18446744073709551616 → perhaps hop_count_words (bind o (in_room (words_needed single) room)) ≡ perhaps path_size (bind o (in_room (words_needed single) room))
unfolding perhaps words_in bind in_room
path_words_lem (refused n vs) room h = refl
path_words_lem (value None) room h = refl
path_words_lem (value (Some hs)) room h = by_room hs room h (ltb room (words_needed single hs)) refl

-- a refusal's number, 0 for an answer
unfoldable number_in : Outcome (Option ℕ) → ℕ
number_in (refused n vs) = n
number_in (value a) = 0

first_said : (o : Outcome (Option ℕ)) → get_or (said (perhaps hop_count_words o)) 0 0 ≡ number_in o
unfolding said padded perhaps words_in bind number_in
first_said (refused n vs) = refl
first_said (value None) = refl
first_said (value (Some n)) = refl

thirteen : walk_fault 13 ≡ true → ⊥
unfolding walk_fault
thirteen e = true≢false (sym e)

-- a walk that is over is not refused by 13
module _ (need : List EntryRow → ℕ) (room : ℕ) where
  unfoldable ending : List EntryRow → Spot Stand End → ℕ
  ending hs p = number_in (bind (settled hs p) (in_room need room))

  in_room_lem : (n k : ℕ) (b : Bool) → number_in (cond b (refused 2 (n ∷ [])) (value (Some k))) ≡ 13 → ⊥
  unfolding number_in
  in_room_lem n k true h = omega (arith, h)
  in_room_lem n k false h = omega (arith, h)

  stopped_short : (hs : List EntryRow) → number_in (bind (value (path_of hs)) (in_room need room)) ≡ 13 → ⊥
  unfolding bind path_of in_room number_in
  stopped_short [] h = omega (arith, h)
  stopped_short (x ∷ hs) h = in_room_lem (need (x ∷ hs)) (length (x ∷ hs)) (ltb room (need (x ∷ hs))) h

  not_endless : (hs : List EntryRow) (p : Spot Stand End) → going p ≡ false → ((k : ℕ) (vs : List ℕ) → p ≡ ended (fault k vs) → walk_fault k ≡ true) → ending hs p ≡ 13 → ⊥
  unfolding going settled bind in_room number_in ending
  not_endless hs (stand s) g f h = true≢false g
  not_endless hs (ended path) g f h = in_room_lem (need hs) (length hs) (ltb room (need hs)) h
  not_endless hs (ended no_path) g f h = omega (arith, h)
  not_endless hs (ended (fault k vs)) g f h = thirteen (subst (λ n. walk_fault n ≡ true) h (f k vs refl))
  not_endless hs stopped g f h = stopped_short hs h

  pub endless_said : (x : Rows) (s : Stand) (W : List EntryRow → Type 0) (o : Outcome (Option ℕ)) (a : List ℕ) → a ≡ said (perhaps hop_count_words o) → WalkRule x s need room W o → (get_or a 0 0 ≡ 13) ↔ Never (walk_on x) s
  unfolding number_in ending
  endless_said x s W o a e w =
      let first : get_or a 0 0 ≡ number_in o = ap (λ l. get_or l 0 0) e ∙ first_said o in (
        λ h. ⊎_elim {C = Never (walk_on x) s}
            (λ z. absurd (not_endless (hops_n (walk_on x) s z.0) (walk_n (walk_on x) s z.0) z.2.over (λ k vs q. w.faults z.0 k vs q) (ap number_in (sym (w.ends z.0 z.2)) ∙ sym first ∙ h)))
            (λ n. n)
            w.bounded,
        λ n. first ∙ ap number_in (w.never.1 n),
      )

  pub again_said : (x : Rows) (s : Stand) (W : List EntryRow → Type 0) (o : Outcome (Option ℕ)) (a : List ℕ) → a ≡ said (perhaps hop_count_words o) → WalkRule x s need room W o → (get_or a 0 0 ≡ 13) ↔ Again (walk_on x) s
  again_said x s W o a e w =
      let k = endless_said x s W o a e w in
      (λ h. w.again.0 (w.never.1 (k.0 h)), λ g. k.1 (w.never.0 (w.again.1 g)))
