use mathlib.Core.Path.{sym, ◌∙◌}
use Rattle.std.proofs.lemmas.Result.{err_from_is_err_and}
use Rattle.refusal.specs.Outcome.{bind}
use Rattle.refusal.specs.Refusal.{refusal_of}
use Rattle.refusal.proofs.Laws.{missing, there}
use Rattle.adapter.specs.Adapter.{adapter_site}
use Rattle.fabric.specs.Links.{route_or}
use Rattle.tables.specs.Packed.{device_row}
use Rattle.fabric.specs.Tables.{rows_with, next_outcome}
use Rattle.fabric.proofs.Laws.{lane_up, lane_down}
use Rattle.fabric.proofs.lane_leads.Goals as goal

pub returns-in_err-route : goal.returns-in_err-route
unfolding next_outcome route_or bind refusal_of adapter_site device_row
returns-in_err-route c = let a = c.args in let p = err_from_is_err_and c.from_residual.result c.from_residual.ensures.1 in
    let m = missing _ _ _ c.ok_or.ensures.value _ c.in_err-route.was in
    record { leads_to = λ k es. rw (p.1, p.2, m.1) (lane_up (rows_with es a.tables.now) a.place (device_row a.place a.d) a.adapter (sym (c.is_upstream.ensures _) ∙ c.if-is_upstream.true) _ (sym c.upstream_route.ensures ∙ m.0)) }

pub returns-then-is_upstream : goal.returns-then-is_upstream
unfolding route_or bind device_row
returns-then-is_upstream c = let a = c.args in record { leads_to = λ k es. (c.go_up.ensures _).leads_to k es ∙ lane_up (rows_with es a.tables.now) a.place (device_row a.place a.d) a.adapter (sym (c.is_upstream.ensures _) ∙ c.if-is_upstream.true) _ (sym c.upstream_route.ensures ∙ there _ _ _ c.ok_or.ensures.value _ c.in_ok-route.was) }

pub returns-in_err-route-2 : goal.returns-in_err-route-2
unfolding next_outcome route_or bind refusal_of adapter_site device_row
returns-in_err-route-2 c = let a = c.args in let p = err_from_is_err_and c.from_residual-in_err-route-2.result c.from_residual-in_err-route-2.ensures.1 in
    let m = missing _ _ _ c.ok_or-2.ensures.value _ c.in_err-route-2.was in
    record { leads_to = λ k es. rw (p.1, p.2, m.1) (lane_down (rows_with es a.tables.now) a.place (device_row a.place a.d) a.adapter (sym (c.is_upstream.ensures _) ∙ c.if-is_upstream.false) _ (sym c.downstream_route.ensures ∙ m.0)) }

pub returns : goal.returns
unfolding route_or bind device_row
returns c = let a = c.args in record { leads_to = λ k es. (c.go_down.ensures _).leads_to k es ∙ lane_down (rows_with es a.tables.now) a.place (device_row a.place a.d) a.adapter (sym (c.is_upstream.ensures _) ∙ c.if-is_upstream.false) _ (sym c.downstream_route.ensures ∙ there _ _ _ c.ok_or-2.ensures.value _ c.in_ok-route-2.was) }
