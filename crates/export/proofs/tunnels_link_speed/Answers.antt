use mathlib.Core.Path.{ap, ◌∙◌}
use Rattle.answers.specs.Said.{said, always, one}
use Rattle.replies.specs.Replies.{speed_words}
use Rattle.export.proofs.tunnels_link_speed.Goals as goal

pub returns : goal.returns
unfolding speed_words one
returns c = c.always-a.ensures ∙ ap (λ o. said (always speed_words o)) c.link_speed.ensures
