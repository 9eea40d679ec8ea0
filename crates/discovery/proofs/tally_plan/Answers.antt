use mathlib.Core.Path.{sym, ap}
use Rattle.discovery.specs.Work.{tally_of}
use Rattle.discovery.proofs.tally_plan.Goals as goal

pub returns-in-None : goal.returns-in-None
unfolding tally_of
returns-in-None c = sym (ap tally_of c.in-None.is)

pub returns-in-Some : goal.returns-in-Some
unfolding tally_of
returns-in-Some c = sym (ap tally_of c.in-Some.is)
