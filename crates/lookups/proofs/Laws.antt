-- Laws for handing words out. Assumes nothing.
use Prim.Native.Nat.{ℕ, ◌≤◌, ◌<◌}
use mathlib.Core.Path.{◌≡◌, refl, ap, sym, ◌∙◌}
use mathlib.Core.Bool.{true, true≢false}
use mathlib.Core.List.{List, [], ◌∷◌, ◌++◌}
use Rattle.std.specs.Prelude.{Some}
use lib.ListN.{length, drop}
use borrow.Author.Tests.{lt-ltb, le-ltb}
use Rattle.refusal.specs.Outcome.{refused, value, bind}
use Rattle.text.specs.Text.{in_room, output_by}
use Rattle.answers.specs.Said.{padded, said, answered, always, one}
use Rattle.lookups.specs.Handed.{HandedOut}

result_answered : (n : ℕ) → answered (said (value (Some (one n)))) ≡ true
unfolding answered said padded one
result_answered n = refl

-- words that there is too little room for, and words that there is room for
module _ (words output a : List ℕ) where
  pub too_short : length output < length words → a ≡ said (refused 2 (length words ∷ [])) → HandedOut words output output a
  unfolding in_room output_by always bind
  too_short h f =
      let l = lt-ltb (length output) (length words) h in
      let room : in_room (length output) words ≡ refused 2 (length words ∷ []) = simp l in
      record { says = f ∙ sym (ap (λ o. said (always one o)) room); writes = sym (simp l); kept = λ h. refl }

  pub all_handed : length words ≤ length output → (output' : List ℕ) → output' ≡ words ++ drop (length words) output → a ≡ said (value (Some (one (length words)))) → HandedOut words output output' a
  unfolding in_room output_by always bind
  all_handed h output' wrote f =
      let l = le-ltb (length output) (length words) h in
      let room : in_room (length output) words ≡ value (length words) = simp l in
      record { says = f ∙ sym (ap (λ o. said (always one o)) room); writes = wrote ∙ sym (simp l); kept = λ q. absurd (true≢false (sym (result_answered (length words)) ∙ ap answered (sym f) ∙ q)) }
