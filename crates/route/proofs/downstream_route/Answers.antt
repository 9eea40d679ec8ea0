use mathlib.Core.Path.{sym}
use Rattle.route.proofs.Laws.{down_none, down_some, down_room}
use Rattle.route.proofs.downstream_route.Goals as goal

pub returns-then-d-ge8 : goal.returns-then-d-ge8
returns-then-d-ge8 c = sym (down_none _ _ c.depth-d.ensures _ c.if-d-ge8.true)

pub overflow_mul-result : goal.overflow_mul-result
overflow_mul-result c = record { fits = (down_room _ _ c.depth-d.ensures _ c.if-d-ge8.false c.unit.ensures c.args.adapter c.ranges.adapter.fits c.ranges.route.fits).0 }

pub overflow_add-result : goal.overflow_add-result
overflow_add-result c = record { fits = (down_room _ _ c.depth-d.ensures _ c.if-d-ge8.false c.unit.ensures c.args.adapter c.ranges.adapter.fits c.ranges.route.fits).1 }

pub returns : goal.returns
returns c = sym (down_some _ _ c.depth-d.ensures _ c.if-d-ge8.false c.unit.ensures _)
