use mathlib.Core.Path.{ap, ◌∙◌}
use Rattle.answers.specs.Said.{said, perhaps, register_words}
use Rattle.export.proofs.tunnels_parse_line.Goals as goal

pub returns : goal.returns
returns c = c.line-a.ensures ∙ ap (λ o. said (perhaps register_words o)) c.parse_debugfs.ensures
