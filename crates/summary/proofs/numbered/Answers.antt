use native.Mathlib.Omega.{arith}
use Rattle.printed.proofs.Laws.{too_long, no_room, room}
use Rattle.summary.proofs.numbered.Goals as goal

pub returns-then-need : goal.returns-then-need
returns-then-need c = too_long c.put_numbered-need.ensures _ (omega (arith, c.if-need.true))

pub returns-then-output-need : goal.returns-then-output-need
returns-then-output-need c = no_room c.put_numbered-need.ensures _ (omega (arith, c.if-need.false, c.put_numbered-need.type_inv)) c.if-output-need.true

pub returns : goal.returns
returns c = room c.put_numbered-need.ensures (omega (arith, c.if-need.false, c.put_numbered-need.type_inv)) c.if-output-need.false c.put_numbered.ensures
