use Rattle.std.proofs.lemmas.Result.{err_from_is_err_and}
use mathlib.Core.Path.{◌∙◌}
use Rattle.load.proofs.Result.{tables_fit}
use Rattle.adapters.proofs.Rows as laws
use Rattle.adapters.proofs.find_row.Goals as goal

pub returns-in_err-tables : goal.returns-in_err-tables
returns-in_err-tables c = let p = err_from_is_err_and c.from_residual.result c.from_residual.ensures.1 in
    rw (p.1, p.2) (laws.row_refused _ _ _ (c.tables.ensures.rows ∙ c.load-loaded.ensures) _ _ _ c.in_err-tables.was)

pub returns-then-tables-site : goal.returns-then-tables-site
returns-then-tables-site c = laws.row_past _ _ _ (c.tables.ensures.rows ∙ c.load-loaded.ensures) _ _ _ c.in_ok-tables.was c.if-tables-site.true

pub returns : goal.returns
returns c = let t = c.tables.ensures in let k = c.in_ok-tables.was in
    rw c.ok_or.ensures.value (laws.row_found _ _ _ (t.rows ∙ c.load-loaded.ensures) _ _ _ k (tables_fit _ _ k t.fits).1 c.if-tables-site.false _ c.find_adapter.ensures)
