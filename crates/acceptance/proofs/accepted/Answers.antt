use Rattle.std.proofs.lemmas.Result.{err_from_is_err_and}
use Rattle.load.specs.Answers.{counts_of}
use Rattle.load.proofs.Result.{accept_ended, accept_gone_on}
use Rattle.acceptance.specs.Accepted.{accepted_answer}
use Rattle.acceptance.proofs.Laws.{said}
use Rattle.acceptance.proofs.accepted.Goals as goal

pub returns-in_err-counts : goal.returns-in_err-counts
unfolding accepted_answer counts_of
returns-in_err-counts c = let p = err_from_is_err_and c.from_residual.result c.from_residual.ensures.1 in
    rw (p.1, p.2) (accept_ended _ _ c.accept.ensures said _ c.in_err-counts.was)

pub returns : goal.returns
unfolding accepted_answer counts_of
returns c = accept_gone_on _ _ c.accept.ensures said _ c.in_ok-counts.was
