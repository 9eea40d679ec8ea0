use Rattle.walk.proofs.Turns.{absent, walks_on}
use Rattle.walk.proofs.tally.Goals as goal

pub returns-in_default : goal.returns-in_default
returns-in_default c = absent _ _ c.find_entry.ensures c.in_default.is

pub returns : goal.returns
returns c = walks_on _ _ c.find_entry.ensures c.in-Some.is c.onward.ensures
