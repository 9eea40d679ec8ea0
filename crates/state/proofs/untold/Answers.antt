use mathlib.Core.Path.{refl}
use Rattle.state.proofs.untold.Goals as goal

pub returns : goal.returns
returns c = refl
