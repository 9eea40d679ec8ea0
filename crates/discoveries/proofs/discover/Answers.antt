use Rattle.std.proofs.lemmas.Result.{err_from_is_err_and}
use mathlib.Core.Path.{◌∙◌}
use Rattle.load.proofs.Result.{tables_ended, tables_fit}
use Rattle.walks.proofs.Laws.{rows_loaded}
use Rattle.discoveries.specs.Calls.{discover_answer}
use Rattle.discoveries.proofs.Laws as laws
use Rattle.discoveries.proofs.discover.Goals as goal

pub returns-in_err-tables : goal.returns-in_err-tables
unfolding discover_answer
returns-in_err-tables c =
    let p = err_from_is_err_and c.from_residual.result c.from_residual.ensures.1 in
    rw (p.1, p.2) (laws.turned_away _ _ _ _ _ _ (tables_ended _ _ (c.tables.ensures.rows ∙ c.load.ensures) _ _ c.in_err-tables.was))

pub returns : goal.returns
returns c = let t = tables_fit _ _ c.in_ok-tables.was c.tables.ensures.fits in
    laws.done _ _ _ _ _ _ (rows_loaded _ _ (c.tables.ensures.rows ∙ c.load.ensures) _ c.in_ok-tables.was) t.0.sized t.1 _ _ c.discover_in.ensures
