use native.Mathlib.Omega.{arith}
use Rattle.tables.proofs.Laws.{below_next, ends_meet}
use Rattle.boundary.proofs.seek.Goals as goal

pub loop-lo-init : goal.loop-lo-init
loop-lo-init c = (omega arith, c.end_of-hi.ensures.0, λ l. absurd (omega arith), c.end_of-hi.ensures.1)

pub loop-lo-preserved-then-table-mid : goal.loop-lo-preserved-then-table-mid
loop-lo-preserved-then-table-mid c = (omega arith, c.loop-lo.invariant.1, below_next c.args.table.now _ _ c.if-table-mid.true, c.loop-lo.invariant.3)

pub loop-lo-preserved : goal.loop-lo-preserved
loop-lo-preserved c = (omega arith, omega arith, c.loop-lo.invariant.2, λ l. c.if-table-mid.false)

pub returns : goal.returns
returns c = ends_meet c.args.table.now _ _ c.loop-lo.hi c.loop-lo.invariant.0 (omega arith) c.loop-lo.invariant.1 c.loop-lo.invariant.2 c.loop-lo.invariant.3
