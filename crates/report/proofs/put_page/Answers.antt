use Rattle.std.proofs.lemmas.Result.{err_from_is_err_and}
use mathlib.Core.Path.{sym}
use lib.Seq.{length-take-le}
use Rattle.report.proofs.Paging.{paged_larger, paged_past, paged_refused, paged}
use Rattle.report.proofs.put_page.Goals as goal

pub returns-then-larger : goal.returns-then-larger
returns-then-larger c = paged_larger _ _ _ (c.larger.ensures.1 c.if-larger.true)

pub returns-then-tables-index : goal.returns-then-tables-index
returns-then-tables-index c = paged_past _ _ _ c.if-tables-index.true

pub slice_bounds-words-end : goal.slice_bounds-words-end
slice_bounds-words-end c = c.answer_at.ensures.within _ c.in_ok-n.was

pub slice_bounds-lines-end : goal.slice_bounds-lines-end
slice_bounds-lines-end c = sym (length-take-le _ _ (c.answer_at.ensures.within _ c.in_ok-n.was))

pub returns-in_err-n : goal.returns-in_err-n
returns-in_err-n c =
    let p = err_from_is_err_and c.from_residual.result c.from_residual.ensures.1 in
    rw (p.1, p.2) (paged_refused _ _ _ c.if-tables-index.false (c.larger.ensures.0 c.if-larger.false) _ _ c.answer_at.ensures _ c.in_err-n.was)

pub returns : goal.returns
returns c = paged _ _ _ c.if-tables-index.false (c.larger.ensures.0 c.if-larger.false) _ _ c.answer_at.ensures _ c.in_ok-n.was _ _ c.lines-page.ensures
