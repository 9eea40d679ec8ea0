use Rattle.lookups.proofs.Laws.{too_short, all_handed}
use mathlib.Core.Path.{refl}
use Rattle.answers.specs.Said.{said, padded, one}
use Rattle.lookups.proofs.put.Goals as goal

-- `lookups::put` meets its contract.
pub returns-then-to-from : goal.returns-then-to-from
unfolding said padded
returns-then-to-from c = too_short _ _ _ c.if-to-from.true refl

pub returns : goal.returns
unfolding said padded one
returns c = all_handed _ _ _ c.if-to-from.false _ c.copy.ensures refl
