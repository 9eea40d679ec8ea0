use mathlib.Core.Path.{◌∙◌, ap}
use Rattle.std.specs.Prelude.{Ok, Err}
use Rattle.std.proofs.lemmas.Result.{err_from_is_err_and}
use Rattle.refusal.proofs.Laws.{no_field}
use Rattle.state.proofs.Laws as laws
use Rattle.state.proofs.two_flags.Goals as goal

pub returns-in_err-set : goal.returns-in_err-set
returns-in_err-set c = let p = err_from_is_err_and c.from_residual.result c.from_residual.ensures.1 in
    rw p.1 (laws.both_missing _ _ _ c.flag.ensures (c.in_err-set.was ∙ ap Err (no_field _)))

pub returns-then-not-set : goal.returns-then-not-set
returns-then-not-set c = laws.both_clear _ _ _ c.flag.ensures (c.in_ok-set.was ∙ ap Ok c.if-not-set.true)

pub returns : goal.returns
returns c = laws.both_set_lem _ _ _ c.flag.ensures (c.in_ok-set.was ∙ ap Ok c.if-not-set.false) _ c.flag-2.ensures
