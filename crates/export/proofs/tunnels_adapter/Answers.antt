use mathlib.Core.Path.{ap, ◌∙◌}
use Rattle.answers.specs.Said.{said, always}
use Rattle.replies.specs.Replies.{info_words}
use Rattle.export.proofs.tunnels_adapter.Goals as goal

pub returns : goal.returns
returns c = c.adapter-a.ensures ∙ ap (λ o. said (always info_words o)) c.adapter.ensures
