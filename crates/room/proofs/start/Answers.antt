use Rattle.room.proofs.LineStarts.{no_start, start_empty, start_comment, start_line}
use Rattle.room.proofs.start.Goals as goal

-- `room::start` meets its contract.
pub returns-then-b-ne10 : goal.returns-then-b-ne10
returns-then-b-ne10 c = no_start _ _ c.if-b-ne10.true

pub returns-then-c-eq10 : goal.returns-then-c-eq10
returns-then-c-eq10 c = start_empty _ _ c.if-b-ne10.false c.if-c-eq10.true

pub returns-then-c-eq35 : goal.returns-then-c-eq35
returns-then-c-eq35 c = start_comment _ _ c.if-b-ne10.false c.if-c-eq10.false c.if-c-eq35.true

pub returns : goal.returns
returns c = start_line _ _ c.if-b-ne10.false c.if-c-eq10.false c.if-c-eq35.false
