use Rattle.std.specs.Prelude.{Ok}
use Rattle.std.proofs.lemmas.Result.{err_from_is_err_and}
use mathlib.Core.Path.{◌∙◌, ap}
use Rattle.tunnel.proofs.Planning.{finish_refused, finish_absent, finish_path}
use Rattle.tunnel.proofs.finish.Goals as goal

pub returns-in_err-walked : goal.returns-in_err-walked
returns-in_err-walked c =
    let p = err_from_is_err_and c.from_residual.result c.from_residual.ensures.1 in
    rw (p.1, p.2) (finish_refused _ _ _ _ _ _ _ _ c.tally.ensures _ c.in_err-walked.was)

pub returns-in_default : goal.returns-in_default
returns-in_default c = finish_absent _ _ _ _ _ _ _ _ c.tally.ensures (c.in_ok-walked.was ∙ ap Ok c.in_default.is)

pub returns : goal.returns
returns c = finish_path _ _ _ _ _ _ _ _ c.tally.ensures _ _ _ _ _ _ (c.in_ok-walked.was ∙ ap Ok c.in-Some.is) c.same.ensures c.path_words.ensures c.requires
