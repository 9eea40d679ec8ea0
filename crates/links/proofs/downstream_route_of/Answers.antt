use mathlib.Core.Path.{sym, ◌∙◌}
use Rattle.std.proofs.lemmas.Result.{err_from_is_err_and}
use Rattle.refusal.proofs.Laws.{missing, there}
use Rattle.tables.specs.Packed.{device_row}
use Rattle.adapter.specs.Adapter.{facts_row, adapter_site}
use Rattle.fabric.specs.Links.{route_or}
use Rattle.fabric.proofs.Laws.{lane_kind, no_lane_kind, down_no_lane, down_route}
use Rattle.links.proofs.downstream_route_of.Goals as goal

pub returns-in_default : goal.returns-in_default
unfolding facts_row
returns-in_default c = down_no_lane _ _ _ (no_lane_kind _ c.in_default.not-Lane)

pub returns-in_err-route : goal.returns-in_err-route
unfolding facts_row device_row route_or adapter_site
returns-in_err-route c = let p = err_from_is_err_and c.from_residual.result c.from_residual.ensures.1 in
    let m = missing _ _ _ c.ok_or.ensures.value _ c.in_err-route.was in
    rw (p.1, p.2, m.1) (down_route _ _ _ (lane_kind _ c.in-Lane.is) _ (sym c.downstream_route.ensures ∙ m.0))

pub returns : goal.returns
unfolding facts_row device_row route_or
returns c = down_route _ _ _ (lane_kind _ c.in-Lane.is) _ (sym c.downstream_route.ensures ∙ there _ _ _ c.ok_or.ensures.value _ c.in_ok-route.was)
