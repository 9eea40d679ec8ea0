use Prim.Native.Nat.{◌+◌}
use native.Mathlib.Omega.{arith}
use Rattle.room.proofs.LineStarts.{block, last_block}
use Rattle.room.proofs.all_starts.Goals as goal

pub loop-at-init : goal.loop-at-init
loop-at-init c = (omega arith, omega arith, omega arith)

pub overflow_add-at : goal.overflow_add-at
overflow_add-at c = omega (arith, c.loop-at.invariant, c.loop-at-test.true, c.well_formed)

pub slice_bounds-starts-end : goal.slice_bounds-starts-end
slice_bounds-starts-end c = omega (arith, c.loop-at.invariant, c.loop-at-test.true)

pub starts-requires : goal.starts-requires
starts-requires c = let at = c.loop-at.at in
    let b = block c.args.s.now at (at + 192) (at + 193) (omega arith) (omega arith) (omega (arith, c.loop-at.invariant, c.loop-at-test.true)) in
    omega (arith, b.long)

pub overflow_add-n : goal.overflow_add-n
overflow_add-n c = let at = c.loop-at.at in
    let b = block c.args.s.now at (at + 192) (at + 193) (omega arith) (omega arith) (omega (arith, c.loop-at.invariant, c.loop-at-test.true)) in
    omega (arith, c.loop-at.invariant, b, c.starts.ensures, c.well_formed)

pub overflow_add-at-in-loop-at : goal.overflow_add-at-in-loop-at
overflow_add-at-in-loop-at c = omega (arith, c.loop-at.invariant, c.loop-at-test.true, c.well_formed)

pub loop-at-smaller : goal.loop-at-smaller
loop-at-smaller c = omega (arith, c.loop-at.invariant, c.loop-at-test.true)

pub loop-at-preserved : goal.loop-at-preserved
loop-at-preserved c = let at = c.loop-at.at in
    let b = block c.args.s.now at (at + 192) (at + 193) (omega arith) (omega arith) (omega (arith, c.loop-at.invariant, c.loop-at-test.true)) in
    (omega (arith, c.loop-at.invariant, c.loop-at-test.true), omega (arith, c.loop-at.invariant, b, c.starts.ensures), omega (arith, c.loop-at.invariant, b, c.starts.ensures))

pub slice_bounds-starts-count-2 : goal.slice_bounds-starts-count-2
slice_bounds-starts-count-2 c = omega (arith, c.loop-at.invariant)

pub slice_bounds-starts-start-2 : goal.slice_bounds-starts-start-2
slice_bounds-starts-start-2 c = omega (arith, c.loop-at.invariant)

pub starts-requires-2 : goal.starts-requires-2
starts-requires-2 c = omega (arith, last_block c.args.s.now c.loop-at.at, c.loop-at-test.false)

pub overflow_add-result : goal.overflow_add-result
overflow_add-result c = let b = last_block c.args.s.now c.loop-at.at in
    omega (arith, c.loop-at.invariant, b, c.starts-2.ensures, c.well_formed)

pub returns : goal.returns
returns c = let b = last_block c.args.s.now c.loop-at.at in
    omega (arith, c.loop-at.invariant, b, c.starts-2.ensures)
