use Rattle.scan.specs.Scan.{is_line_feed}
use Rattle.scan.proofs.Laws.{place_above}
use native.Mathlib.Omega.{arith}
use Rattle.text.proofs.Skipping.{skips_start, skips_more, skipped_last, skipped_marker, skipped_end}
use Rattle.text.proofs.next_marker.Goals as goal

pub loop-i-init : goal.loop-i-init
loop-i-init c = skips_start _ _ c.requires

pub returns-then-text-i-eq64 : goal.returns-then-text-i-eq64
returns-then-text-i-eq64 c = skipped_marker _ _ _ c.loop-i.invariant c.loop-i-test.true c.if-text-i-eq64.true

pub returns-then-text-end : goal.returns-then-text-end
returns-then-text-end c = skipped_last _ _ _ _ c.loop-i.invariant c.loop-i-test.true c.if-text-i-eq64.false c.line_end-end.ensures c.if-text-end.true

pub overflow_add-i : goal.overflow_add-i
overflow_add-i c = omega (arith, c.if-text-end.false, c.well_formed)

pub loop-i-smaller : goal.loop-i-smaller
loop-i-smaller c = omega (arith, c.if-text-end.false, c.loop-i-test.true, place_above is_line_feed c.args.text.now c.loop-i.i, c.line_end-end.ensures)

pub loop-i-preserved : goal.loop-i-preserved
loop-i-preserved c = skips_more _ _ _ _ c.loop-i.invariant c.loop-i-test.true c.if-text-i-eq64.false c.line_end-end.ensures c.if-text-end.false

pub returns : goal.returns
returns c = skipped_end _ _ _ c.loop-i.invariant c.loop-i-test.false
