use native.Mathlib.Omega.{arith}
use Rattle.scan.specs.Scan.{is_line_feed}
use Rattle.scan.proofs.Laws.{place_above}
use Rattle.columns.proofs.InColumns.{past_few}
use Rattle.columns.proofs.by_tokens.Goals as goal

pub returns-then-s-end : goal.returns-then-s-end
returns-then-s-end c = (c.line_end-end.ensures, past_few c.args.s.now c.args.at _ c.line_end-end.ensures c.if-s-end.true)

pub slice_bounds-read_line-count : goal.slice_bounds-read_line-count
slice_bounds-read_line-count c = omega (arith, c.line_end-end.ensures, place_above is_line_feed c.args.s.now c.args.at)

pub slice_bounds-read_line-start : goal.slice_bounds-read_line-start
slice_bounds-read_line-start c = omega (arith, c.if-s-end.false, c.line_end-end.ensures, place_above is_line_feed c.args.s.now c.args.at)
