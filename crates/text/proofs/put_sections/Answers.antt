use mathlib.Core.Path.{refl, ◌∙◌}
use Rattle.text.proofs.Skipping.{is_marker_lem}
use Prim.Native.Nat.{◌-◌}
use native.Mathlib.Omega.{arith}
use Rattle.scan.specs.Scan.{is_line_feed}
use Rattle.scan.proofs.Laws.{place_above, place_within}
use Rattle.text.proofs.Bodies.{going_start, body_fits, going_step, going_end}
use Rattle.text.proofs.Dumps.{low_part}
use Rattle.text.proofs.put_sections.Goals as goal

pub loop-at-init : goal.loop-at-init
loop-at-init c = (refl, going_start _ _ _ _ c.requires.1 c.requires.2 c.next_marker-at.ensures)

pub after_line-from-requires : goal.after_line-from-requires
after_line-from-requires c = omega (arith, place_within is_line_feed c.args.text.now c.loop-at.at (omega (arith, c.loop-at-test.true)), c.line_end-end.ensures)

pub next_marker-next-requires : goal.next_marker-next-requires
next_marker-next-requires c = c.after_line-from.ensures.within

pub slice_bounds-put_section-count : goal.slice_bounds-put_section-count
slice_bounds-put_section-count c = omega (arith, place_above is_line_feed c.args.text.now c.loop-at.at, c.line_end-end.ensures)

pub slice_bounds-put_section-start : goal.slice_bounds-put_section-start
slice_bounds-put_section-start c = omega (arith, place_above is_line_feed c.args.text.now c.loop-at.at, place_within is_line_feed c.args.text.now c.loop-at.at (omega (arith, c.loop-at-test.true)), c.line_end-end.ensures)

pub slice_bounds-put_section-end : goal.slice_bounds-put_section-end
slice_bounds-put_section-end c = omega (arith, place_above is_line_feed c.args.text.now c.loop-at.at, place_within is_line_feed c.args.text.now c.loop-at.at (omega (arith, c.loop-at-test.true)), c.line_end-end.ensures)

pub slice_bounds-put_section-count-in-loop-at : goal.slice_bounds-put_section-count-in-loop-at
slice_bounds-put_section-count-in-loop-at c = omega (arith, c.next_marker-next.ensures.above, c.next_marker-next.ensures.within)

pub slice_bounds-put_section-start-in-loop-at : goal.slice_bounds-put_section-start-in-loop-at
slice_bounds-put_section-start-in-loop-at c = omega (arith, c.next_marker-next.ensures.above, c.next_marker-next.ensures.within)

pub slice_bounds-put_section-end-in-loop-at : goal.slice_bounds-put_section-end-in-loop-at
slice_bounds-put_section-end-in-loop-at c = omega (arith, c.next_marker-next.ensures.above, c.next_marker-next.ensures.within)

pub put_section-k-requires : goal.put_section-k-requires
put_section-k-requires c = let f = body_fits _ _ _ _ _ _ _ _ _ c.loop-at.invariant.1 c.line_end-end.ensures c.loop-at-test.true c.after_line-from.ensures c.next_marker-next.ensures in (c.next_marker-next.ensures.stands, low_part c.args.text.now c.after_line-from.result (c.next_marker-next.result - c.after_line-from.result) c.requires.0, f.0, omega (arith, f.1, c.loop-at.invariant.0))

pub loop-at-smaller : goal.loop-at-smaller
loop-at-smaller c = omega (arith, c.next_marker-next.ensures.above, c.next_marker-next.ensures.within, c.after_line-from.ensures.above, (is_marker_lem _ _ _ c.line_end-end.ensures c.loop-at-test.true (c.loop-at.invariant.1.stands c.loop-at-test.true)).0, c.loop-at-test.true)

pub loop-at-preserved : goal.loop-at-preserved
loop-at-preserved c = (c.put_section-k.auto.scratch ∙ c.loop-at.invariant.0, going_step _ _ _ _ _ _ _ _ _ c.loop-at.invariant.1 c.line_end-end.ensures c.loop-at-test.true c.after_line-from.ensures c.next_marker-next.ensures _ _ c.put_section-k.ensures)

pub shape_of-scratch : goal.shape_of-scratch
shape_of-scratch c = c.loop-at.invariant.0

pub shape_of-out : goal.shape_of-out
shape_of-out c = c.loop-at.invariant.1.long

pub returns : goal.returns
returns c = going_end _ _ _ _ _ _ c.loop-at.invariant.1 c.loop-at-test.false
