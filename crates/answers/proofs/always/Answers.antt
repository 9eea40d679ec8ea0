use mathlib.Core.Path.{sym, ap, ◌∙◌}
use Rattle.std.specs.Prelude.{Some}
use Rattle.refusal.specs.Outcome.{value, bind}
use Rattle.refusal.specs.Refusal.{outcome}
use Rattle.answers.specs.Said.{said, always, one}
use Rattle.answers.proofs.Laws.{always_refused}
use Rattle.answers.proofs.always.Goals as goal

pub returns-in-Ok : goal.returns-in-Ok
unfolding always bind
returns-in-Ok g c = c.result.ensures ∙ ap (λ n. said (value (Some (one n)))) c.number.ensures ∙ sym (ap (λ a. said (always (λ n. one (g.N.Number.value n)) (outcome a))) c.in-Ok.is)

pub returns-in-Err : goal.returns-in-Err
returns-in-Err g c = c.refused.ensures ∙ always_refused (λ n. one (g.N.Number.value n)) c.in-Err.refusal ∙ sym (ap (λ a. said (always (λ n. one (g.N.Number.value n)) (outcome a))) c.in-Err.is)
