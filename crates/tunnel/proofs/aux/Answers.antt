use Rattle.std.specs.Prelude.{Ok}
use Rattle.std.proofs.lemmas.Result.{err_from_is_err_and}
use mathlib.Core.Path.{◌∙◌, ap, subst}
use Rattle.receive.specs.Receive.{at}
use Rattle.walk.specs.Tables.{Tallied}
use Rattle.tunnel.proofs.Planning.{aux_refused, aux_absent, aux_path}
use Rattle.tunnel.proofs.aux.Goals as goal

pub returns-in_err-walked : goal.returns-in_err-walked
unfolding at
returns-in_err-walked c =
    let p = err_from_is_err_and c.from_residual.result c.from_residual.ensures.1 in
    rw (p.1, p.2) (aux_refused _ _ _ _ _ (subst (λ s. Tallied c.args.tables.now s.stand c.tally.result) c.starting-tx.ensures c.tally.ensures) _ c.in_err-walked.was)

pub returns-in_default : goal.returns-in_default
unfolding at
returns-in_default c = aux_absent _ _ _ _ _ (subst (λ s. Tallied c.args.tables.now s.stand c.tally.result) c.starting-tx.ensures c.tally.ensures) (c.in_ok-walked.was ∙ ap Ok c.in_default.is)

pub returns : goal.returns
unfolding at
returns c = aux_path _ _ _ _ _ (subst (λ s. Tallied c.args.tables.now s.stand c.tally.result) c.starting-tx.ensures c.tally.ensures) _ _ _ _ _ _ _ _ _ (c.in_ok-walked.was ∙ ap Ok c.in-Some.is) c.path_words.ensures
    c.starting.ensures c.starting-tx.ensures c.starting-rx.ensures c.finish.ensures
