use Rattle.std.proofs.lemmas.Result.{err_from_is_err_and}
use Rattle.load.proofs.Result.{counts_refused, counts_answered}
use Rattle.load.proofs.accept.Goals as goal

pub returns-in_err-load_into : goal.returns-in_err-load_into
returns-in_err-load_into c = let p = err_from_is_err_and c.from_residual.result c.from_residual.ensures.1 in
    rw (p.1, p.2) (counts_refused _ _ _ c.load_into.ensures _ c.in_err-load_into.was)

pub returns : goal.returns
returns c = counts_answered _ _ _ c.load_into.ensures _ c.in_ok-load_into.was _ c.counts.ensures
