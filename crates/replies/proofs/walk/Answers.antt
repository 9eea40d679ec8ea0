use mathlib.Core.Path.{sym, ap, ◌∙◌}
use Rattle.std.specs.Prelude.{Some, Ok}
use Rattle.refusal.specs.Outcome.{value, bind}
use Rattle.answers.specs.Said.{said, padded, words_in, perhaps, one}
use Rattle.replies.specs.Replies.{hop_count_words}
use Rattle.answers.proofs.Laws.{perhaps_refused}
use Rattle.replies.proofs.walk.Goals as goal
use Rattle.refusal.specs.Refusal.{outcome}

pub returns-in-Ok-Some : goal.returns-in-Ok-Some
unfolding said padded bind perhaps words_in one hop_count_words
returns-in-Ok-Some c = ap (λ ws. said (value (Some ws))) c.words_of.ensures ∙ sym (ap (λ a. said (perhaps hop_count_words (outcome a))) (c.in-Ok-Some.is ∙ ap Ok (rw c.in-Ok-Some.is at c.in-Ok-Some.field-0-is)))

pub returns-in-Ok-None : goal.returns-in-Ok-None
unfolding said padded bind perhaps words_in hop_count_words
returns-in-Ok-None c = sym (ap (λ a. said (perhaps hop_count_words (outcome a))) (c.in-Ok-None.is ∙ ap Ok (rw c.in-Ok-None.is at c.in-Ok-None.field-0-is)))

pub returns-in-Err : goal.returns-in-Err
returns-in-Err c = c.refused.ensures ∙ perhaps_refused hop_count_words _ ∙ sym (ap (λ a. said (perhaps hop_count_words (outcome a))) c.in-Err.is)
