use mathlib.Core.Path.{sym, ap, ◌∙◌}
use Rattle.std.proofs.lemmas.Result.{err_from_is_err_and}
use Rattle.refusal.specs.Refusal.{fault_outcome}
use Rattle.refusal.proofs.Laws.{missing, there}
use Rattle.tables.specs.Found.{device_found}
use Rattle.load.proofs.Result.{tables_ended, tables_gone_on, tables_fit}
use Rattle.parents.specs.Parents.{parent_answer}
use Rattle.parents.proofs.Laws.{none_asked, parent_asked}
use Rattle.parents.proofs.parent_from.Goals as goal

pub returns-in_err-tables : goal.returns-in_err-tables
unfolding parent_answer
returns-in_err-tables c = let p = err_from_is_err_and c.from_residual.result c.from_residual.ensures.1 in
    rw (p.1, p.2) (tables_ended _ _ (c.tables.ensures.rows ∙ c.load.ensures) _ _ c.in_err-tables.was)

pub returns-in_err-d : goal.returns-in_err-d
unfolding parent_answer device_found
returns-in_err-d c = let p = err_from_is_err_and c.from_residual-in_err-d.result c.from_residual-in_err-d.ensures.1 in
    let m = missing _ _ _ c.ok_or.ensures.value _ c.in_err-d.was in
    rw (p.1, p.2, m.1) (none_asked _ _ (sym (ap (device_found _) m.0) ∙ c.find_device.ensures) ∙ sym (tables_gone_on _ _ (c.tables.ensures.rows ∙ c.load.ensures) _ _ c.in_ok-tables.was))

pub returns-in_err-parent_of : goal.returns-in_err-parent_of
unfolding parent_answer device_found
returns-in_err-parent_of c = let p = err_from_is_err_and c.from_residual-in_err-parent_of.result c.from_residual-in_err-parent_of.ensures.1 in
    let t = (tables_fit _ _ c.in_ok-tables.was c.tables.ensures.fits).1 in
    rw (p.1, p.2) (sym (ap fault_outcome c.in_err-parent_of.was) ∙ parent_asked _ _ _ t (sym (ap (device_found _) (there _ _ _ c.ok_or.ensures.value _ c.in_ok-d.was)) ∙ c.find_device.ensures) _ c.parent_of.ensures ∙ sym (tables_gone_on _ _ (c.tables.ensures.rows ∙ c.load.ensures) _ _ c.in_ok-tables.was))

pub returns : goal.returns
unfolding parent_answer device_found
returns c = let t = (tables_fit _ _ c.in_ok-tables.was c.tables.ensures.fits).1 in
    sym (ap fault_outcome c.in_ok-parent_of.was) ∙ parent_asked _ _ _ t (sym (ap (device_found _) (there _ _ _ c.ok_or.ensures.value _ c.in_ok-d.was)) ∙ c.find_device.ensures) _ c.parent_of.ensures ∙ sym (tables_gone_on _ _ (c.tables.ensures.rows ∙ c.load.ensures) _ _ c.in_ok-tables.was)
