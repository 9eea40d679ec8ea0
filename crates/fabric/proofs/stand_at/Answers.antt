use Rattle.fabric.proofs.Laws.{stood, stood_nowhere, there_or_not}
use Rattle.fabric.proofs.stand_at.Goals as goal

pub returns-in-None : goal.returns-in-None
returns-in-None c = λ k l. stood_nowhere _ _ _ _ c.find_lane.ensures k.adapters l c.in-None.is

pub returns : goal.returns
returns c = λ k l. let w = there_or_not _ c.in_default.not-None in stood _ _ _ _ c.find_lane.ensures k.adapters l w.0 w.1
