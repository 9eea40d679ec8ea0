use Rattle.std.proofs.Common.{arith}
use Rattle.cases.specs.declared.totals.Totals.{Totals}
use Rattle.cases.proofs.Counting.{line_in, more, counts_turn, counts_end}
use Rattle.cases.proofs.totals.count.Goals as goal

pub slice_bounds-agrees-count : goal.slice_bounds-agrees-count
slice_bounds-agrees-count g c = (line_in _ _ _ c.line_end-end.ensures c.loop-start-test.true).0

pub slice_bounds-agrees-start : goal.slice_bounds-agrees-start
slice_bounds-agrees-start g c = (line_in _ _ _ c.line_end-end.ensures c.loop-start-test.true).0

pub slice_bounds-agrees-end : goal.slice_bounds-agrees-end
slice_bounds-agrees-end g c = (line_in _ _ _ c.line_end-end.ensures c.loop-start-test.true).1

pub loop-start-smaller : goal.loop-start-smaller
loop-start-smaller g c = omega (arith, line_in _ _ _ c.line_end-end.ensures c.loop-start-test.true)

pub loop-start-preserved : goal.loop-start-preserved
loop-start-preserved g c =
    let place = line_in _ _ _ c.line_end-end.ensures c.loop-start-test.true in
    let t : Totals = c.loop-start.t in
    let one = more t c.counted-t.result c.agrees.result c.counted-t.ensures in
    record {
      rest = λ z u k. c.loop-start.invariant.rest z u (counts_turn g.C.Compare.answers c.args.text.now c.loop-start.start c.loop-start.of t c.line_end-end.result c.line_end-end.ensures c.loop-start-test.true c.agrees.result c.agrees.new.self c.agrees.ensures c.counted-t.result c.counted-t.ensures z u k);
      differ_in = one.differ_in c.loop-start.invariant.differ_in;
      cases_in = omega (arith, one.cases, c.loop-start.invariant.cases_in, place);
      start_in = omega (arith, place);
    }

pub returns-clause-counts : goal.returns-clause-counts
returns-clause-counts g c = c.loop-start.invariant.rest _ _ (counts_end g.C.Compare.answers c.args.text.now c.loop-start.start c.loop-start.of c.loop-start.t _ (omega (arith, c.loop-start-test.false)))
