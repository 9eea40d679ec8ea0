use mathlib.Core.Path.{sym, ap, ◌∙◌}
use Rattle.refusal.specs.Outcome.{bind}
use Rattle.refusal.specs.Refusal.{outcome}
use Rattle.answers.specs.Said.{said, padded, always}
use Rattle.answers.proofs.Laws.{always_refused}
use Rattle.replies.specs.Replies.{counts_words}
use Rattle.replies.proofs.loaded.Goals as goal

pub returns-in-Ok : goal.returns-in-Ok
unfolding said padded bind always counts_words
returns-in-Ok c = sym (ap (λ a. said (always counts_words (outcome a))) c.in-Ok.is)

pub returns-in-Err : goal.returns-in-Err
returns-in-Err c = c.refused.ensures ∙ always_refused counts_words _ ∙ sym (ap (λ a. said (always counts_words (outcome a))) c.in-Err.is)
