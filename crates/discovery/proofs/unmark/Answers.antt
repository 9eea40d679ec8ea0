use Rattle.discovery.proofs.Quiet.{unmarked_at, not_there_at}
use Rattle.discovery.proofs.unmark.Goals as goal

pub returns-then-idle-i : goal.returns-then-idle-i
returns-then-idle-i c = not_there_at _ _ _ c.mark_of-i.ensures.0 c.if-idle-i.true

pub returns : goal.returns
returns c = unmarked_at _ _ _ c.mark_of-i.ensures.0 c.if-idle-i.false
