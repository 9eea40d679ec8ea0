use Rattle.std.proofs.lemmas.Result.{err_from_is_err_and}
use mathlib.Core.Path.{ap, ◌∙◌}
use Rattle.refusal.specs.Outcome.{value}
use Rattle.load.specs.Answers.{tables_rows}
use Rattle.load.proofs.Result.{tables_in_order, refused_so, loaded_so}
use Rattle.load.proofs.Loaded.tables.Goals as goal

pub returns-in_err-self-clause-rows : goal.returns-in_err-self-clause-rows
unfolding tables_rows
returns-in_err-self-clause-rows c = let p = err_from_is_err_and c.from_residual.result c.from_residual.ensures.1 in
    rw (p.1, p.2) (refused_so _ _ _ c.self.view_is _ c.in_err-self.was)

pub returns-clause-rows : goal.returns-clause-rows
unfolding tables_rows
returns-clause-rows c = ap (λ x. value x) c.tables.ensures.rows ∙ loaded_so _ _ _ c.self.view_is _ c.in_ok-self.was

pub returns-clause-fits : goal.returns-clause-fits
returns-clause-fits c = tables_in_order _ _ _ c.tables.ensures.rows c.tables.ensures.fits c.self.invariant _ c.in_ok-self.was
