use mathlib.Core.Path.{refl}
use Rattle.columns.proofs.Packed.{joined_is}
use Rattle.columns.proofs.joined.Goals as goal

pub returns : goal.returns
returns c = joined_is c.args.x _ refl
