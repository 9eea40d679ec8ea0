use mathlib.Core.Path.{sym, ap, ◌∙◌}
use Rattle.std.specs.Prelude.{Ok, Err}
use Rattle.std.proofs.lemmas.Result.{err_from_is_err_and}
use Rattle.refusal.proofs.Laws.{missing, there, no_field}
use borrow.Author.Tests.{eq-eqb, ne_eqb}
use Rattle.tables.specs.Packed.{device_row}
use Rattle.adapter.specs.Adapter.{facts_row, adapter_site}
use Rattle.fabric.specs.Links.{route_or}
use Rattle.fabric.proofs.Laws.{lane_kind, no_lane_kind, up_no_lane, up_other, up_route}
use Rattle.links.proofs.Laws.{none_upstream, no_field_upstream, upstream_by_lem}
use Rattle.links.proofs.upstream_route_of.Goals as goal

pub returns-in_default : goal.returns-in_default
unfolding facts_row
returns-in_default c = up_no_lane _ _ _ (no_lane_kind _ c.in_default.not-Lane)

pub returns-in-Ok-None : goal.returns-in-Ok-None
unfolding facts_row device_row
returns-in-Ok-None c = up_other _ _ _ (lane_kind _ c.in-Lane.is) (none_upstream _ _ _ (c.in-Ok-None.is ∙ ap Ok (rw c.in-Ok-None.is at c.in-Ok-None.field-0-is)))

pub returns-in-Err-NoField : goal.returns-in-Err-NoField
unfolding facts_row device_row
returns-in-Err-NoField c = up_other _ _ _ (lane_kind _ c.in-Lane.is) (no_field_upstream _ _ _ (c.in-Err-NoField.is ∙ ap Err (no_field _)))

pub returns-then-number-adapter : goal.returns-then-number-adapter
unfolding facts_row device_row
returns-then-number-adapter c = up_other _ _ _ (lane_kind _ c.in-Lane.is) (upstream_by_lem _ _ _ _ (c.in-Ok-Some.is ∙ ap Ok (rw c.in-Ok-Some.is at c.in-Ok-Some.field-0-is)) ∙ ne_eqb _ _ c.if-number-adapter.true)

pub returns-in_err-route : goal.returns-in_err-route
unfolding facts_row device_row route_or adapter_site
returns-in_err-route c = let p = err_from_is_err_and c.from_residual.result c.from_residual.ensures.1 in
    let m = missing _ _ _ c.ok_or.ensures.value _ c.in_err-route.was in
    rw (p.1, p.2, m.1) (up_route _ _ _ (lane_kind _ c.in-Lane.is) (upstream_by_lem _ _ _ _ (c.in-Ok-Some.is ∙ ap Ok (rw c.in-Ok-Some.is at c.in-Ok-Some.field-0-is)) ∙ eq-eqb _ _ c.if-number-adapter.false) _ (sym c.upstream_route.ensures ∙ m.0))

pub returns : goal.returns
unfolding facts_row device_row route_or
returns c = up_route _ _ _ (lane_kind _ c.in-Lane.is) (upstream_by_lem _ _ _ _ (c.in-Ok-Some.is ∙ ap Ok (rw c.in-Ok-Some.is at c.in-Ok-Some.field-0-is)) ∙ eq-eqb _ _ c.if-number-adapter.false) _ (sym c.upstream_route.ensures ∙ there _ _ _ c.ok_or.ensures.value _ c.in_ok-route.was)
