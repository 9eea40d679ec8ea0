use native.Mathlib.Omega.{arith}
use Rattle.scan.specs.Scan.{is_line_feed}
use Rattle.scan.proofs.Laws.{place_above, place_within}
use Rattle.markers.specs.Markers.{marker_by}
use Rattle.text.proofs.Sections.{next_end, mark_here}
use Rattle.text.proofs.mark_at.Goals as goal

pub returns-then-text-at : goal.returns-then-text-at
unfolding marker_by
returns-then-text-at c = next_end _ _ c.if-text-at.true

pub slice_bounds-marker-count : goal.slice_bounds-marker-count
slice_bounds-marker-count c = omega (arith, place_above is_line_feed c.args.text.now c.args.at, c.line_end-end.ensures)

pub slice_bounds-marker-start : goal.slice_bounds-marker-start
slice_bounds-marker-start c = omega (arith, place_above is_line_feed c.args.text.now c.args.at, place_within is_line_feed c.args.text.now c.args.at (omega (arith, c.if-text-at.false)), c.line_end-end.ensures)

pub slice_bounds-marker-end : goal.slice_bounds-marker-end
slice_bounds-marker-end c = omega (arith, place_above is_line_feed c.args.text.now c.args.at, place_within is_line_feed c.args.text.now c.args.at (omega (arith, c.if-text-at.false)), c.line_end-end.ensures)

pub returns : goal.returns
returns c = mark_here _ _ _ c.line_end-end.ensures c.if-text-at.false c.requires _ c.marker.ensures
