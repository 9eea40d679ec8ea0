use Rattle.std.specs.Prelude.{Ok}
use Rattle.std.proofs.lemmas.Result.{err_from_is_err_and}
use mathlib.Core.Path.{refl, ◌∙◌, ap}
use native.Mathlib.Omega.{arith}
use Rattle.receive.specs.Receive.{at}
use Rattle.receive.specs.Tables.{note_stand}
use Rattle.discovery.proofs.Notes.{path_refused, path_absent, path_there}
use Rattle.discovery.proofs.noted_path.Goals as goal

pub returns-in_err-walked : goal.returns-in_err-walked
unfolding note_stand
returns-in_err-walked c =
    let p = err_from_is_err_and c.from_residual.result c.from_residual.ensures.1 in
    rw (p.1, p.2) (path_refused _ _ _ _ _ _ c.tally.ensures refl (omega arith) _ c.in_err-walked.was)

pub returns-in_default : goal.returns-in_default
unfolding note_stand
returns-in_default c = path_absent _ _ _ _ _ _ c.tally.ensures refl (omega arith) (c.in_ok-walked.was ∙ ap Ok c.in_default.is)

pub returns : goal.returns
unfolding note_stand at
returns c = path_there _ _ _ _ _ _ c.tally.ensures refl (omega arith) _ _ _ _ (c.in_ok-walked.was ∙ ap Ok c.in-Some.is)
