use mathlib.Core.Path.{◌∙◌, ap}
use Rattle.std.specs.Result.{result_ok}
use Rattle.std.proofs.lemmas.Result.{err_from_is_err_and}
use Rattle.std.specs.Prelude.{Err}
use Rattle.refusal.proofs.Laws.{no_field}
use Rattle.paths.proofs.Laws as laws
use Rattle.paths.proofs.leads_to.Goals as goal

pub returns-in_err-hop : goal.returns-in_err-hop
returns-in_err-hop c = let p = err_from_is_err_and c.from_residual.result c.from_residual.ensures.1 in
    rw p.1 (ap Err (no_field _) ∙ laws.leads_no_hop _ _ _ (c.ok_or.ensures.ok_part ∙ ap result_ok c.in_err-hop.was))

pub returns-in_err-out : goal.returns-in_err-out
returns-in_err-out c = let p = err_from_is_err_and c.from_residual-in_err-out.result c.from_residual-in_err-out.ensures.1 in
    rw p.1 (ap Err (no_field _) ∙ laws.leads_no_out _ _ _ _ (c.ok_or.ensures.ok_part ∙ ap result_ok c.in_ok-hop.was) (c.ok_or-2.ensures.ok_part ∙ ap result_ok c.in_err-out.was))

pub returns : goal.returns
returns c = laws.leads_both _ _ _ _ (c.ok_or.ensures.ok_part ∙ ap result_ok c.in_ok-hop.was) _ _ _ (c.ok_or-2.ensures.ok_part ∙ ap result_ok c.in_ok-out.was) c.bits.ensures c.bits-2.ensures
