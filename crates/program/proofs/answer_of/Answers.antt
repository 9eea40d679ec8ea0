use Rattle.std.proofs.lemmas.Result.{err_from_is_err_and}
use Rattle.program.proofs.Opening.{read_refused, read_words}
use Rattle.program.proofs.answer_of.Goals as goal

pub returns-in_err-read : goal.returns-in_err-read
returns-in_err-read c =
    let p = err_from_is_err_and c.from_residual.result c.from_residual.ensures.1 in
    rw (p.1, p.2) (read_refused _ _ _ c.in_err-read.was)

pub returns : goal.returns
returns c = read_words _ _ _ _ c.in_ok-read.was c.try_loaded.ensures
