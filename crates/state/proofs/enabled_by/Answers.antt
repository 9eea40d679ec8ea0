use Rattle.refusal.proofs.Laws.{no_field}
use Rattle.std.specs.Prelude.{Ok, Err}
use mathlib.Core.Path.{◌∙◌, ap}
use Rattle.state.proofs.Laws as laws
use Rattle.state.proofs.enabled_by.Goals as goal

pub returns-in-Err-NoField : goal.returns-in-Err-NoField
returns-in-Err-NoField c = laws.enabled_missing _ _ (c.in-Err-NoField.is ∙ ap Err (no_field _))

pub returns-in-Ok-false : goal.returns-in-Ok-false
returns-in-Ok-false c = laws.enabled_clear _ _ (c.in-Ok-false.is ∙ ap Ok c.in-Ok-false.field-0-test)

pub returns-in-Ok-true : goal.returns-in-Ok-true
returns-in-Ok-true c = laws.enabled_set _ _ (c.in-Ok-true.is ∙ ap Ok c.in-Ok-true.field-0-test)
