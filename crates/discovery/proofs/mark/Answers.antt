use Rattle.discovery.proofs.Rings.{not_marked, marked}
use Rattle.discovery.proofs.mark.Goals as goal

-- `discovery::mark` meets its contract.
pub returns-then-words-gt0 : goal.returns-then-words-gt0
returns-then-words-gt0 c = not_marked _ _ _

pub returns-then-ring-gt2046 : goal.returns-then-ring-gt2046
returns-then-ring-gt2046 c = not_marked _ _ _

pub returns : goal.returns
returns c = marked _ _ _ c.if-words-gt0.false c.if-ring-gt2046.false
