use Rattle.std.specs.Prelude.{Ok, Err}
use Rattle.refusal.proofs.Laws.{no_field}
use mathlib.Core.Path.{ap, sym, ◌∙◌}
use Rattle.refusal.specs.Refusal.{refusal_of, field_at}
use Rattle.fabric.specs.Links.{is_upstream}
use Rattle.fabric.proofs.is_upstream.Goals as goal

pub returns-in-Ok-Some : goal.returns-in-Ok-Some
unfolding is_upstream
returns-in-Ok-Some c = λ s. sym (ap (λ u. is_upstream (field_at s u) c.args.number) (c.in-Ok-Some.is ∙ ap Ok (rw c.in-Ok-Some.is at c.in-Ok-Some.field-0-is)))

pub returns-in-Ok-None : goal.returns-in-Ok-None
unfolding is_upstream
returns-in-Ok-None c = λ s. sym (ap (λ u. is_upstream (field_at s u) c.args.number) (c.in-Ok-None.is ∙ ap Ok (rw c.in-Ok-None.is at c.in-Ok-None.field-0-is)))

pub returns-in-Err-NoField : goal.returns-in-Err-NoField
unfolding is_upstream refusal_of
returns-in-Err-NoField c = λ s. sym (ap (λ u. is_upstream (field_at s u) c.args.number) (c.in-Err-NoField.is ∙ ap Err (no_field _)))
