use Rattle.columns.proofs.InColumns.{quick_of}
use Rattle.columns.proofs.read_at.Goals as goal

pub returns : goal.returns
returns c = quick_of c.args.s.now c.args.at _ _ c.in-Some.is c.by_columns.ensures
