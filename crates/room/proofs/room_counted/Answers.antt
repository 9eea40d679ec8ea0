use mathlib.Core.Path.{sym, ◌∙◌}
use Rattle.room.proofs.Enough.{short_scratch, short_output, room_enough}
use Rattle.room.proofs.room_counted.Goals as goal

pub returns-then-lacks : goal.returns-then-lacks
returns-then-lacks c = short_scratch _ _ _ _ c.count-need.ensures.0 (sym c.lacks.ensures ∙ c.if-lacks.true)

pub returns-then-lacks-2 : goal.returns-then-lacks-2
returns-then-lacks-2 c = short_output _ _ _ _ c.count-need.ensures.0 (sym c.lacks-2.ensures ∙ c.if-lacks-2.true)

pub returns : goal.returns
returns c = room_enough _ _ _ _ c.count-need.ensures.0 (sym c.lacks.ensures ∙ c.if-lacks.false) (sym c.lacks-2.ensures ∙ c.if-lacks-2.false)
