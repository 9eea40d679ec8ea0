use Rattle.std.proofs.lemmas.Result.{err_from_is_err_and}
use Rattle.refusal.specs.Refusal.{outcome}
use Rattle.load.proofs.Joining.{short, into_descriptions, into_survey, into_fault, into_rows}
use mathlib.Core.Path.{◌∙◌, ap, sym}
use Rattle.load.proofs.load_into.Goals as goal

pub returns-in_err-check : goal.returns-in_err-check
returns-in_err-check c = let p = err_from_is_err_and c.from_residual.result c.from_residual.ensures.1 in
    rw (p.1, p.2) (into_descriptions _ _ _ _ c.check.ensures c.in_err-check.was _)

pub returns-in_err-check-2 : goal.returns-in_err-check-2
returns-in_err-check-2 c = let p = err_from_is_err_and c.from_residual-in_err-check-2.result c.from_residual-in_err-check-2.ensures.1 in
    rw (p.1, p.2) (into_survey _ _ (sym (ap outcome c.in_ok-check.was) ∙ c.check.ensures) _ _ c.check-2.ensures c.in_err-check-2.was _)

pub fill-requires : goal.fill-requires
fill-requires c = short _ (sym (ap outcome c.in_ok-check-2.was) ∙ c.check-2.ensures)

pub returns-in_err-fill : goal.returns-in_err-fill
returns-in_err-fill c = let p = err_from_is_err_and c.from_residual-in_err-fill.result c.from_residual-in_err-fill.ensures.1 in
    rw (p.1, p.2) (into_fault _ _ (sym (ap outcome c.in_ok-check.was) ∙ c.check.ensures) (sym (ap outcome c.in_ok-check-2.was) ∙ c.check-2.ensures) _ _ c.fill.ensures _ c.in_err-fill.was _)

pub returns : goal.returns
returns c = into_rows _ _ (sym (ap outcome c.in_ok-check.was) ∙ c.check.ensures) (sym (ap outcome c.in_ok-check-2.was) ∙ c.check-2.ensures) _ _ c.fill.ensures _ c.in_ok-fill.was
