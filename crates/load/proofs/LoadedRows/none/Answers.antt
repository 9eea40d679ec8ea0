use Rattle.load.proofs.Putting.{none_held}
use Rattle.load.proofs.LoadedRows.none.Goals as goal

pub returns : goal.returns
returns c = none_held _ _ _
