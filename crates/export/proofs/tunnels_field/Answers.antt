use mathlib.Core.Path.{ap, ◌∙◌}
use Rattle.answers.specs.Said.{said, always, one}
use Rattle.export.proofs.tunnels_field.Goals as goal

pub returns : goal.returns
returns c = c.always-a.ensures ∙ ap (λ o. said (always one o)) c.field.ensures
