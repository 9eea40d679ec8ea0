use Rattle.export.proofs.Laws.{discover_said}
use Rattle.export.proofs.tunnels_discover.Goals as goal

pub returns : goal.returns
returns c = discover_said _ _ _ _ _ _ _ _ c.discover.ensures c.perhaps-a.ensures
