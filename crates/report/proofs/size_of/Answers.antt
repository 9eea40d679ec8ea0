use mathlib.Core.Path.{sym, ap}
use Rattle.std.proofs.lemmas.Result.{err_from_is_err_and}
use Rattle.report.specs.Work.{size_of}
use Rattle.report.proofs.size_of.Goals as goal

pub returns-in_err-found : goal.returns-in_err-found
unfolding size_of
returns-in_err-found c =
    let p = err_from_is_err_and c.from_residual.result c.from_residual.ensures.1 in
    rw (p.1, p.2) (sym (ap size_of c.in_err-found.was))

pub returns : goal.returns
unfolding size_of
returns c = rw c.unwrap_or.ensures (sym (ap size_of c.in_ok-found.was))
