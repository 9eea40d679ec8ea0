use Rattle.grammar.proofs.Laws.{end_in}
use Rattle.grammar.proofs.Checking.{words_four, turn_on, turn_wrong, turn_end}
use native.Mathlib.Omega.{arith}
use mathlib.Core.Path.{refl, sym, ◌∙◌}
use Rattle.grammar.proofs.check_lines.Goals as goal

pub loop-at-init : goal.loop-at-init
loop-at-init c = (omega arith, omega arith, refl)

pub slice_bounds-lead-count : goal.slice_bounds-lead-count
slice_bounds-lead-count c = omega (arith, end_in c.args.text.now c.loop-at.at c.line_end-end.result c.line_end-end.ensures c.loop-at-test.true)

pub slice_bounds-lead-start : goal.slice_bounds-lead-start
slice_bounds-lead-start c = omega (arith, end_in c.args.text.now c.loop-at.at c.line_end-end.result c.line_end-end.ensures c.loop-at-test.true)

pub slice_bounds-lead-end : goal.slice_bounds-lead-end
slice_bounds-lead-end c = omega (arith, end_in c.args.text.now c.loop-at.at c.line_end-end.result c.line_end-end.ensures c.loop-at-test.true)

pub returns-in_default : goal.returns-in_default
returns-in_default c = turn_wrong c.args.text.now c.loop-at.at c.line_end-end.result c.line_end-end.ensures c.loop-at-test.true c.loop-at.made c.loop-at.u c.loop-at.invariant.2 (sym c.lead.ensures ∙ c.in_default.is)

pub overflow_add-made : goal.overflow_add-made
overflow_add-made c = omega (arith, end_in c.args.text.now c.loop-at.at c.line_end-end.result c.line_end-end.ensures c.loop-at-test.true, words_four _ _ _ _ (sym c.lead.ensures ∙ c.in-Some.is), c.requires)

pub overflow_add-at : goal.overflow_add-at
overflow_add-at c = omega (arith, end_in c.args.text.now c.loop-at.at c.line_end-end.result c.line_end-end.ensures c.loop-at-test.true, c.requires)

pub loop-at-smaller : goal.loop-at-smaller
loop-at-smaller c = omega (arith, end_in c.args.text.now c.loop-at.at c.line_end-end.result c.line_end-end.ensures c.loop-at-test.true)

pub loop-at-preserved : goal.loop-at-preserved
loop-at-preserved c = let e = end_in c.args.text.now c.loop-at.at c.line_end-end.result c.line_end-end.ensures c.loop-at-test.true in
    let w = words_four _ _ _ _ (sym c.lead.ensures ∙ c.in-Some.is) in
    (omega arith, omega arith, turn_on c.args.text.now c.loop-at.at c.line_end-end.result c.line_end-end.ensures c.loop-at-test.true c.loop-at.made c.loop-at.u c.loop-at.invariant.2 _ _ (sym c.lead.ensures ∙ c.in-Some.is))

pub returns : goal.returns
returns c = turn_end c.args.text.now c.loop-at.at c.loop-at-test.false _ _ c.loop-at.invariant.2
