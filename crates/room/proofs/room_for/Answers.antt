use mathlib.Core.Path.{sym, ◌∙◌}
use Rattle.room.proofs.Enough.{room_plenty}
use Rattle.room.proofs.room_for.Goals as goal

pub returns : goal.returns
returns c = room_plenty _ _ _ _ c.most_records-most.ensures (sym c.lacks.ensures ∙ c.if-lacks.false) (sym c.lacks-2.ensures ∙ c.if-lacks-2.false)
