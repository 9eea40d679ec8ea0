-- The outcome of the text reader, answer by answer. Assumes nothing.
use Rattle.std.specs.Prelude.{Err, Ok, Result}
use Prim.Native.Nat.{ℕ, ◌≤◌, ◌<◌}
use native.Mathlib.Omega.{arith}
use mathlib.Core.Path.{◌≡◌, ◌∙◌, ap, sym}
use mathlib.Core.List.{List, [], ◌∷◌, ◌++◌}
use lib.ListN.{length, drop}
use borrow.Author.Tests.{lt-ltb, le-ltb}
use Rattle.refusal.specs.Outcome.{refused, value, bind}
use Rattle.grammar.specs.Grammar.{items_of, check_answer}
use Rattle.text.specs.Text.{sections_of, survey_words, survey_of, in_room, output_by, TextDone}
use Rattle.text.specs.Work.{sections_from}
use Rattle.text.proofs.Counting.{Taken, taken}
use Rattle.refusal.specs.Refusal.{outcome}
use Rattle.refusal.proofs.Laws.{numbered}
use Rattle.refusal.specs.declared.Refusal.{Refusal}
use Rattle.refusal.specs.declared.Refusal.TheVariants as refusal

-- the grammar refuses
pub refusing : (t output : List ℕ) (a : Result ℕ Refusal) → outcome a ≡ check_answer t → (r : Refusal) → a ≡ Err r → TextDone t output (Err r) output
unfolding survey_of bind output_by
refusing t output a e r k =
    let x = numbered ℕ r in
    let s : survey_of t ≡ refused x.0 x.1 = ap (λ o. bind o (λ n. value (survey_words (sections_of (items_of t))))) (sym e ∙ ap outcome k ∙ x.2) in
    record { answers = x.2 ∙ sym (ap (λ o. bind o (in_room (length output))) s); writes = sym (ap (λ o. output_by o output) s) }

-- the grammar takes it
module _ (t output : List ℕ) (n : ℕ) (e : value n ≡ check_answer t) where
  accepted : Taken t n
  accepted = taken t n (sym e)

  survey_is : survey_of t ≡ value (survey_words (sections_of (items_of t)))
  unfolding survey_of bind
  survey_is = ap (λ o. bind o (λ k. value (survey_words (sections_of (items_of t))))) (sym e)

  pub too_short : length output < n → TextDone t output (Err (refusal.Short n)) output
  unfolding bind in_room output_by
  too_short h =
      let w = accepted.words in
      let l = lt-ltb (length output) (length (survey_words (sections_of (items_of t)))) (omega (arith, w)) in
      record {
        answers = sym (ap (λ o. bind o (in_room (length output))) survey_is ∙ simp l (ap (λ k. refused 2 (k ∷ [])) (sym w)));
        writes = sym (ap (λ o. output_by o output) survey_is ∙ simp l);
      }

  pub all_written : n ≤ length output → (output' : List ℕ) → output' ≡ survey_words (sections_from t 0) ++ drop (length (survey_words (sections_from t 0))) output → TextDone t output (Ok n) output'
  unfolding bind in_room output_by sections_from
  all_written h output' f =
      let w = accepted.words in
      let l = le-ltb (length output) (length (survey_words (sections_of (items_of t)))) (omega (arith, w)) in
      record {
        answers = sym (ap (λ o. bind o (in_room (length output))) survey_is ∙ simp l (ap (λ k. value k) (sym w)));
        writes = f ∙ sym (ap (λ o. output_by o output) survey_is ∙ simp l);
      }
