use Rattle.std.specs.Prelude.{None, Ok, Err}
use Rattle.std.proofs.lemmas.Result.{err_from_is_err_and}
use mathlib.Core.Path.{ap, sym, ◌∙◌}
use Rattle.tables.specs.Found.{adapter_found}
use Rattle.tables.specs.Packed.{device_row}
use Rattle.refusal.specs.Refusal.{refusal_of, fault_outcome}
use Rattle.refusal.specs.Outcome.{value, bind}
use Rattle.adapter.specs.Adapter.{adapter_site}
use Rattle.parents.specs.Parents.{router_at, parent_by, upstream_in}
use Rattle.parents.proofs.Laws.{by_upstream, by_adapter, by_route}
use Rattle.refusal.proofs.Laws.{fault_bind, no_field}
use Rattle.parents.proofs.router_parent.Goals as goal
use Rattle.fabric.specs.Tables.{rows_with}

pub returns-in-Ok-None : goal.returns-in-Ok-None
unfolding bind upstream_in parent_by
returns-in-Ok-None c = record { is = λ k l es. by_upstream _ _ _ _ (c.in-Ok-None.is ∙ ap Ok (rw c.in-Ok-None.is at c.in-Ok-None.field-0-is)) }

pub returns-in-Err-NoField : goal.returns-in-Err-NoField
unfolding refusal_of bind adapter_site
returns-in-Err-NoField c = record { is = λ k l es. by_upstream _ _ _ _ (c.in-Err-NoField.is ∙ ap Err (no_field _)) }

pub returns-in_default : goal.returns-in_default
unfolding rows_with parent_by adapter_found
returns-in_default c = record { is = λ k l es. by_adapter _ _ _ _ None (c.in-Ok-Some.is ∙ ap Ok (rw c.in-Ok-Some.is at c.in-Ok-Some.field-0-is)) (sym (ap (adapter_found _) c.in_default.is) ∙ c.find_adapter.ensures.first l k.adapters) }

pub returns-in_err-r : goal.returns-in_err-r
unfolding rows_with adapter_found
returns-in_err-r c = let p = err_from_is_err_and c.from_residual.result c.from_residual.ensures.1 in
    record {
      is = λ k l es. rw (p.1, p.2) (sym (fault_bind _ _) ∙ by_route _ _ _ _ _ _ (c.in-Ok-Some.is ∙ ap Ok (rw c.in-Ok-Some.is at c.in-Ok-Some.field-0-is)) (sym (ap (adapter_found _) c.in-Some.is) ∙ c.find_adapter.ensures.first l k.adapters) (sym (ap fault_outcome c.in_err-r.was) ∙ c.upstream_route_of.ensures));
    }

pub returns-in-None : goal.returns-in-None
unfolding rows_with adapter_found bind router_at
returns-in-None c = record { is = λ k l es. by_route _ _ _ _ _ _ (c.in-Ok-Some.is ∙ ap Ok (rw c.in-Ok-Some.is at c.in-Ok-Some.field-0-is)) (sym (ap (adapter_found _) c.in-Some.is) ∙ c.find_adapter.ensures.first l k.adapters) (sym (ap fault_outcome (c.in_ok-r.was ∙ ap Ok c.in-None.is)) ∙ c.upstream_route_of.ensures) }

pub returns-in-Some-2 : goal.returns-in-Some-2
unfolding rows_with device_row adapter_found bind router_at
returns-in-Some-2 c = record { is = λ k l es. ap value c.find_router.ensures ∙ by_route (rows_with es c.args.tables.now) _ _ _ _ _ (c.in-Ok-Some.is ∙ ap Ok (rw c.in-Ok-Some.is at c.in-Ok-Some.field-0-is)) (sym (ap (adapter_found _) c.in-Some.is) ∙ c.find_adapter.ensures.first l k.adapters) (sym (ap fault_outcome (c.in_ok-r.was ∙ ap Ok c.in-Some-2.is)) ∙ c.upstream_route_of.ensures) }
