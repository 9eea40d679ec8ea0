use Rattle.std.proofs.lemmas.Result.{err_from_is_err_and}
use mathlib.Core.Path.{◌∙◌}
use Rattle.load.proofs.Result.{tables_fit}
use Rattle.adapters.proofs.Rows as laws
use Rattle.entries.proofs.path.Goals as goal

pub returns-in_err-tables : goal.returns-in_err-tables
returns-in_err-tables c = let p = err_from_is_err_and c.from_residual.result c.from_residual.ensures.1 in
    rw (p.1, p.2) (laws.path_refused _ _ _ (c.tables.ensures.rows ∙ c.load-loaded.ensures) _ _ _ _ c.in_err-tables.was)

pub returns-then-tables-stand : goal.returns-then-tables-stand
returns-then-tables-stand c = laws.path_past _ _ _ (c.tables.ensures.rows ∙ c.load-loaded.ensures) _ _ _ c.in_ok-tables.was _ c.if-tables-stand.true

pub returns-in_default : goal.returns-in_default
returns-in_default c = let t = c.tables.ensures in let k = c.in_ok-tables.was in
    laws.path_nowhere _ _ _ (t.rows ∙ c.load-loaded.ensures) _ _ _ k (tables_fit _ _ k t.fits).1 c.if-tables-stand.false _ c.find_adapter.ensures c.in_default.is _

pub returns : goal.returns
returns c = let t = c.tables.ensures in let k = c.in_ok-tables.was in
    laws.path_found _ _ _ (t.rows ∙ c.load-loaded.ensures) _ _ _ k (tables_fit _ _ k t.fits).1 c.if-tables-stand.false _ c.find_adapter.ensures _ c.in-Some.is _ _ c.find_entry-found.ensures
