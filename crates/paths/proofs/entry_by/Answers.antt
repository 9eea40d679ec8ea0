use mathlib.Core.Path.{◌∙◌, ap}
use Rattle.std.specs.Result.{result_ok}
use Rattle.std.proofs.lemmas.Result.{err_from_is_err_and}
use Rattle.std.specs.Prelude.{Err}
use Rattle.refusal.proofs.Laws.{no_field}
use borrow.Author.Tests.{eq-eqb, ne_eqb}
use Rattle.paths.proofs.Laws as laws
use Rattle.paths.proofs.entry_by.Goals as goal

pub returns-in_err-valid : goal.returns-in_err-valid
returns-in_err-valid c = let p = err_from_is_err_and c.from_residual.result c.from_residual.ensures.1 in
    rw p.1 (ap Err (no_field _) ∙ laws.read_none _ _ (c.ok_or.ensures.ok_part ∙ ap result_ok c.in_err-valid.was))

pub returns-then-bits-eq0 : goal.returns-then-bits-eq0
returns-then-bits-eq0 c = laws.read_invalid _ _ _ _ (c.ok_or.ensures.ok_part ∙ ap result_ok c.in_ok-valid.was) c.bits.ensures (eq-eqb _ 0 c.if-bits-eq0.true)

pub returns : goal.returns
returns c = laws.read_leads _ _ _ _ (c.ok_or.ensures.ok_part ∙ ap result_ok c.in_ok-valid.was) c.bits.ensures (ne_eqb _ 0 c.if-bits-eq0.false) _ c.leads_to.ensures
