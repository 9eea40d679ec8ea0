use Rattle.search.proofs.Lanes.{lane_nowhere, lane_told}
use Rattle.search.proofs.find_lane.Goals as goal

pub returns-in_default : goal.returns-in_default
returns-in_default c = lane_nowhere _ _ _ (c.adapter_word.ensures.missing c.in_default.is)

pub returns : goal.returns
returns c = lane_told _ _ _ _ c.adapter_word.ensures _ c.in-Some.is
