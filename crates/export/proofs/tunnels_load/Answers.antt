use mathlib.Core.Path.{ap, ◌∙◌}
use Rattle.answers.specs.Said.{said, always}
use Rattle.replies.specs.Replies.{counts_words}
use Rattle.export.proofs.tunnels_load.Goals as goal

pub returns : goal.returns
returns c = c.loaded-a.ensures ∙ ap (λ o. said (always counts_words o)) c.accepted.ensures
