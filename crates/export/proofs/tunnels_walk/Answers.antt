use native.Mathlib.Omega.{arith}
use Rattle.export.proofs.Laws.{walk_said_lem}
use Rattle.export.proofs.tunnels_walk.Goals as goal

pub returns : goal.returns
returns c = walk_said_lem _ _ _ _ _ _ c.discover_path.ensures _ (omega arith) c.walk-a.ensures
