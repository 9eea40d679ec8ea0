-- With room for 16,384 words no text is short of room: what the text reader answers is the text's survey, or the text's own refusal. Assumes nothing.
use Rattle.std.specs.Prelude.{Ok, Result}
use Prim.Native.Nat.{ℕ, ◌≤◌}
use native.Mathlib.Omega.{arith}
use mathlib.Core.Path.{◌≡◌, refl, sym, ap, ◌∙◌}
use mathlib.Core.Bool.{cond}
use mathlib.Core.List.{List, [], ◌∷◌, ◌++◌}
use borrow.Author.Tests.{le-ltb}
use lib.ListN.{length, take, drop}
use lib.Seq.{take-append_seam}
use Rattle.refusal.specs.Outcome.{Outcome, refused, value, bind}
use Rattle.grammar.specs.Grammar.{items_of, check_answer}
use Rattle.text.specs.Text.{sections_of, survey_words, survey_of, in_room, output_by, TextDone}
use Rattle.text.proofs.Counting.{taken}
use Rattle.walks.proofs.Laws.{refused_value}
use Rattle.refusal.specs.Refusal.{outcome}
use Rattle.refusal.specs.declared.Refusal.{Refusal}

limit : (t ws : List ℕ) → survey_of t ≡ value ws → length ws ≤ 16384
unfolding survey_of bind
limit t ws e = go (check_answer t) refl e
  where
    go : (o : Outcome ℕ) → check_answer t ≡ o → bind o (λ n. value (survey_words (sections_of (items_of t)))) ≡ value ws → length ws ≤ 16384
    go (refused k vs) f q = absurd (refused_value q)
    go (value n) f q = let z : survey_words (sections_of (items_of t)) ≡ ws = cc in omega (arith, (taken t n f).words, (taken t n f).limit, ap length z)

module _ (t output : List ℕ) (l : length output ≡ 16384) where
  in_room_lem : (ws : List ℕ) → survey_of t ≡ value ws → in_room (length output) ws ≡ value (length ws)
  unfolding in_room
  in_room_lem ws e = ap (λ b. cond b (refused 2 (length ws ∷ [])) (value (length ws))) (le-ltb (length output) (length ws) (omega (arith, limit t ws e)))

  written : (ws : List ℕ) → survey_of t ≡ value ws → output_by (value ws) output ≡ ws ++ drop (length ws) output
  unfolding output_by
  written ws e = ap (λ b. cond b output (ws ++ drop (length ws) output)) (le-ltb (length output) (length ws) (omega (arith, limit t ws e)))

  module _ (r : Result ℕ Refusal) (output' : List ℕ) (d : TextDone t output r output') where
    pub text_refused : (n : ℕ) (vs : List ℕ) → outcome r ≡ refused n vs → survey_of t ≡ refused n vs
    unfolding bind
    text_refused n vs e = go (survey_of t) refl (sym e ∙ d.answers)
      where
        go : (o : Outcome (List ℕ)) → survey_of t ≡ o → refused n vs ≡ bind o (in_room (length output)) → o ≡ refused n vs
        go (refused m us) f q = cc
        go (value ws) f q = absurd (refused_value (q ∙ in_room_lem ws f))

    -- the words that are answered are the survey
    pub text_words : (n : ℕ) → r ≡ Ok n → (survey_of t ≡ value (take n output')) × (n ≤ 16384)
    unfolding bind
    text_words n e = go (survey_of t) refl (sym (ap outcome e) ∙ d.answers) d.writes
      where
        go : (o : Outcome (List ℕ)) → survey_of t ≡ o → value n ≡ bind o (in_room (length output)) → output' ≡ output_by o output → (o ≡ value (take n output')) × (n ≤ 16384)
        go (refused m us) f q w = absurd (refused_value (sym q))
        go (value ws) f q w =
            let z : value n ≡ value (length ws) = q ∙ in_room_lem ws f in
            let k : n ≡ length ws = cc in
            (sym (ap (λ i. value (take i output')) k ∙ ap (λ s. value (take (length ws) s)) (w ∙ written ws f) ∙ ap value (take-append_seam ws (drop (length ws) output))), omega (arith, limit t ws f))
