use mathlib.Core.Path.{refl}
use Rattle.refusals.specs.Told.{sited_as}
use Rattle.refusals.proofs.sited.Goals as goal

pub returns : goal.returns
unfolding sited_as
returns c = refl
