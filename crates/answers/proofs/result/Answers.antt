use mathlib.Core.Path.{refl}
use Rattle.answers.specs.Said.{said, padded, one}
use Rattle.answers.proofs.result.Goals as goal

-- `answers::result` meets its contract.
pub returns : goal.returns
unfolding said padded one
returns c = refl
