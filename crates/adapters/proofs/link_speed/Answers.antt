use Rattle.std.proofs.lemmas.Result.{err_from_is_err_and}
use mathlib.Core.Path.{◌∙◌}
use Rattle.adapter.specs.Adapter.{facts_row}
use Rattle.adapters.specs.Calls.{speed_answer}
use Rattle.adapters.proofs.Rows as laws
use Rattle.adapters.proofs.link_speed.Goals as goal

pub returns-in_err-facts : goal.returns-in_err-facts
unfolding speed_answer
returns-in_err-facts c = let p = err_from_is_err_and c.from_residual.result c.from_residual.ensures.1 in
    rw (p.1, p.2) (laws.row_ended _ _ _ _ _ c.find_row.ensures _ _ c.in_err-facts.was)

pub returns : goal.returns
unfolding speed_answer facts_row
returns c = laws.field_said _ _ (laws.row_number _ _ _ _ _ c.find_row.ensures _ c.in_ok-facts.was) _ _ c.ok.ensures.value _ c.ok_or.ensures.value ∙ laws.row_gone_on _ _ _ _ _ c.find_row.ensures (λ x. x.speed) _ c.in_ok-facts.was
