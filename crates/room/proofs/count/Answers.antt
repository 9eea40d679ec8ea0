use native.Mathlib.Omega.{arith}
use Rattle.room.proofs.Lines.{next_line, no_records}
use Rattle.room.proofs.count.Goals as goal

pub loop-at-init : goal.loop-at-init
loop-at-init c = (omega arith, omega arith, omega arith)

pub overflow_add-n : goal.overflow_add-n
overflow_add-n c = let n = next_line c.args.s.now c.loop-at.at c.read_at-line.result c.read_at-line.ensures c.loop-at-test.true in
    omega (arith, n, c.loop-at.invariant, c.well_formed, c.line_records-n.ensures)

pub overflow_add-at : goal.overflow_add-at
overflow_add-at c = let n = next_line c.args.s.now c.loop-at.at c.read_at-line.result c.read_at-line.ensures c.loop-at-test.true in
    omega (arith, n, c.well_formed)

pub loop-at-smaller : goal.loop-at-smaller
loop-at-smaller c = let n = next_line c.args.s.now c.loop-at.at c.read_at-line.result c.read_at-line.ensures c.loop-at-test.true in
    omega (arith, n, c.loop-at-test.true)

pub loop-at-preserved : goal.loop-at-preserved
loop-at-preserved c = let n = next_line c.args.s.now c.loop-at.at c.read_at-line.result c.read_at-line.ensures c.loop-at-test.true in
    let e = c.line_records-n.ensures in
    (omega (arith, n), omega (arith, n, c.loop-at.invariant, e), omega (arith, n, c.loop-at.invariant, e))

pub returns : goal.returns
returns c = let w = c.loop-at in
    let z = no_records c.args.s.now w.at c.loop-at-test.false in
    (omega (arith, w.invariant, z), omega (arith, w.invariant))
