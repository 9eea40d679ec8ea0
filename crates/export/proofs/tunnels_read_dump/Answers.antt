use Rattle.export.proofs.Laws.{dump_said}
use Rattle.export.proofs.tunnels_read_dump.Goals as goal

pub returns : goal.returns
returns c = dump_said _ _ _ _ _ _ _ c.read.ensures c.always-a.ensures
