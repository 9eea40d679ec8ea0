use Rattle.std.proofs.lemmas.Result.{err_from_is_err_and}
use Prim.Native.Nat.{ℕ, ◌+◌}
use native.Mathlib.Omega.{arith}
use mathlib.Core.Path.{sym, ◌∙◌}
use lib.ListN.{length-replicate}
use lib.Seq.{length-take-le}
use Rattle.report.proofs.Trying.{Trying, tries_larger, none_tried, one_tried, tries_refused, tries_all}
use Rattle.report.proofs.try_all.Goals as goal
use Rattle.tables.specs.Tables.{Fits}

pub returns-then-larger : goal.returns-then-larger
returns-then-larger c = tries_larger _ (c.larger.ensures.1 c.if-larger.true)

pub loop-index-init : goal.loop-index-init
loop-index-init c = (length-replicate {A = ℕ} 16384 0, none_tried _)

pub slice_bounds-answer_at-end : goal.slice_bounds-answer_at-end
slice_bounds-answer_at-end c = sym c.loop-index.invariant.0

pub answer_at-requires : goal.answer_at-requires
answer_at-requires c = (c.loop-index-test.true, c.loop-index.invariant.0)

pub returns-in_err-n : goal.returns-in_err-n
returns-in_err-n c =
    let p = err_from_is_err_and c.from_residual.result c.from_residual.ensures.1 in
    rw (p.1, p.2) (tries_refused _ _ _ c.loop-index.invariant.1 c.loop-index-test.true (c.larger.ensures.0 c.if-larger.false) _ _ c.answer_at.ensures _ c.in_err-n.was)

pub slice_bounds-words-end : goal.slice_bounds-words-end
slice_bounds-words-end c = c.answer_at.ensures.within _ c.in_ok-n.was

pub slice_bounds-tunnels-end : goal.slice_bounds-tunnels-end
slice_bounds-tunnels-end c = sym (length-take-le _ _ (c.answer_at.ensures.within _ c.in_ok-n.was))

pub overflow_add-total : goal.overflow_add-total
overflow_add-total c =
    let t : Trying c.args.tables.now (c.loop-index.total + c.tunnels-total.result) (c.loop-index.index + 1) =
    one_tried _ _ _ c.loop-index.invariant.1 c.loop-index-test.true _ _ c.answer_at.ensures (c.answer_at.auto.words ∙ c.loop-index.invariant.0) _ c.in_ok-n.was _ c.tunnels-total.ensures in
    let f : Fits c.args.tables.now = c.larger.ensures.0 c.if-larger.false in
    omega (arith, t.few, t.past, f.adapters)

pub loop-index-preserved : goal.loop-index-preserved
loop-index-preserved c =
    let t : Trying c.args.tables.now (c.loop-index.total + c.tunnels-total.result) (c.loop-index.index + 1) =
    one_tried _ _ _ c.loop-index.invariant.1 c.loop-index-test.true _ _ c.answer_at.ensures (c.answer_at.auto.words ∙ c.loop-index.invariant.0) _ c.in_ok-n.was _ c.tunnels-total.ensures in
    (c.answer_at.auto.words ∙ c.loop-index.invariant.0, t)

pub returns : goal.returns
returns c = tries_all _ _ _ c.loop-index.invariant.1 c.loop-index-test.false (c.larger.ensures.0 c.if-larger.false)
