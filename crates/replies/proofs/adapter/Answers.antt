use mathlib.Core.Path.{sym, ap, ◌∙◌}
use Rattle.refusal.specs.Outcome.{bind}
use Rattle.refusal.specs.Refusal.{outcome}
use Rattle.answers.specs.Said.{said, always}
use Rattle.answers.proofs.Laws.{always_refused}
use Rattle.replies.specs.Replies.{info_words}
use Rattle.replies.proofs.adapter.Goals as goal

pub returns-in-Ok : goal.returns-in-Ok
unfolding bind always
returns-in-Ok c = c.info.ensures ∙ sym (ap (λ a. said (always info_words (outcome a))) c.in-Ok.is)

pub returns-in-Err : goal.returns-in-Err
returns-in-Err c = c.refused.ensures ∙ always_refused info_words _ ∙ sym (ap (λ a. said (always info_words (outcome a))) c.in-Err.is)
