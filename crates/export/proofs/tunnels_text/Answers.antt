use Rattle.export.proofs.Laws.{text_said}
use Rattle.export.proofs.tunnels_text.Goals as goal

pub returns : goal.returns
returns c = text_said _ _ _ _ _ c.read.ensures c.always-a.ensures
