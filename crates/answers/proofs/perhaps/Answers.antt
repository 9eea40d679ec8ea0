use mathlib.Core.Path.{sym, ap, ◌∙◌}
use Rattle.std.specs.Prelude.{Ok, Some}
use Rattle.refusal.specs.Outcome.{value, bind}
use Rattle.refusal.specs.Refusal.{outcome}
use Rattle.answers.specs.Said.{said, padded, words_in, perhaps, one}
use Rattle.answers.proofs.Laws.{perhaps_refused}
use Rattle.answers.proofs.perhaps.Goals as goal

pub returns-in-Ok-Some : goal.returns-in-Ok-Some
unfolding perhaps words_in bind
returns-in-Ok-Some g c =
    let found = c.in-Ok-Some.is ∙ ap Ok c.in-Ok-Some.field-0-is in
    c.result.ensures ∙ ap (λ n. said (value (Some (one n)))) c.number.ensures ∙ sym (ap (λ a. said (perhaps (λ n. one (g.N.Number.value n)) (outcome a))) found)

pub returns-in-Ok-None : goal.returns-in-Ok-None
unfolding said padded perhaps words_in bind
returns-in-Ok-None g c = sym (ap (λ a. said (perhaps (λ n. one (g.N.Number.value n)) (outcome a))) (c.in-Ok-None.is ∙ ap Ok c.in-Ok-None.field-0-is))

pub returns-in-Err : goal.returns-in-Err
returns-in-Err g c = c.refused.ensures ∙ perhaps_refused (λ n. one (g.N.Number.value n)) _ ∙ sym (ap (λ a. said (perhaps (λ n. one (g.N.Number.value n)) (outcome a))) c.in-Err.is)
