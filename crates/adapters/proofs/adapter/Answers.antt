use Rattle.std.proofs.lemmas.Result.{err_from_is_err_and}
use mathlib.Core.Path.{◌∙◌}
use Rattle.adapters.specs.Calls.{adapter_answer}
use Rattle.adapters.proofs.Rows as laws
use Rattle.adapters.proofs.adapter.Goals as goal

pub returns-in_err-facts : goal.returns-in_err-facts
unfolding adapter_answer
returns-in_err-facts c = let p = err_from_is_err_and c.from_residual.result c.from_residual.ensures.1 in
    rw (p.1, p.2) (laws.row_ended _ _ _ _ _ c.find_row.ensures _ _ c.in_err-facts.was)

pub returns : goal.returns
unfolding adapter_answer
returns c = laws.info_said c.args.site.place _ _ c.min_hop.ensures _ c.is_enabled.ensures ∙ laws.row_gone_on _ _ _ _ _ c.find_row.ensures _ _ c.in_ok-facts.was
