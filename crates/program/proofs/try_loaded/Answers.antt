use Rattle.std.proofs.lemmas.Result.{err_from_is_err_and}
use Rattle.load.proofs.Result.{tables_fit}
use Rattle.program.proofs.Opening.{not_loaded, all_tried}
use Rattle.program.proofs.try_loaded.Goals as goal

pub returns-in_err-tables : goal.returns-in_err-tables
returns-in_err-tables c = let p = err_from_is_err_and c.from_residual.result c.from_residual.ensures.1 in
    rw (p.1, p.2) (not_loaded _ _ c.tables.ensures.rows _ c.in_err-tables.was)

pub returns : goal.returns
returns c = all_tried _ _ c.tables.ensures.rows _ c.in_ok-tables.was (tables_fit _ _ c.in_ok-tables.was c.tables.ensures.fits) _ c.try_all.ensures
