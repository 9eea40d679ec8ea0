use Rattle.std.proofs.lemmas.Result.{err_from_is_err_and}
use Rattle.tables.specs.Tables.{rows_of}
use Rattle.load.specs.Answers.{asked_device, present}
use Rattle.devices.specs.Work.{read_device, read_outcome}
use Rattle.devices.proofs.Laws.{found_or_missing}
use Rattle.load.proofs.Result.{tables_ended, tables_gone_on}
use mathlib.Core.Path.{sym, ap, ◌∙◌}
use Rattle.devices.proofs.read_device.Goals as goal

pub returns-in_err-tables : goal.returns-in_err-tables
unfolding read_outcome read_device
returns-in_err-tables c = let p = err_from_is_err_and c.from_residual.result c.from_residual.ensures.1 in
    rw (p.1, p.2) (tables_ended _ _ (c.tables.ensures.rows ∙ c.load-loaded.ensures) _ _ c.in_err-tables.was)

pub returns : goal.returns
unfolding read_device asked_device rows_of
returns c = found_or_missing _ _ _ c.ok_or.ensures.value ∙ ap present c.find_device.ensures ∙ sym (tables_gone_on _ _ (c.tables.ensures.rows ∙ c.load-loaded.ensures) _ _ c.in_ok-tables.was)
