use mathlib.Core.Path.{sym, ap, ◌∙◌}
use Rattle.std.proofs.lemmas.Result.{err_from_is_err_and}
use Rattle.refusal.proofs.Laws.{missing, there}
use Rattle.tables.specs.Packed.{device_row}
use Rattle.refusal.specs.Refusal.{refusal_of}
use Rattle.refusal.specs.Outcome.{value, bind}
use Rattle.adapter.specs.Adapter.{adapter_site}
use Rattle.fabric.specs.Links.{route_or}
use Rattle.parents.specs.Parents.{router_at}
use Rattle.parents.proofs.Laws.{xdomain_by}
use Rattle.parents.proofs.xdomain_parent.Goals as goal
use Rattle.fabric.specs.Tables.{rows_with}

pub returns-in_err-route : goal.returns-in_err-route
unfolding device_row refusal_of route_or adapter_site bind
returns-in_err-route c = λ es. let a = c.args in
    let p = err_from_is_err_and c.from_residual.result c.from_residual.ensures.1 in
    let m = missing _ _ _ c.ok_or.ensures.value _ c.in_err-route.was in
    rw (p.1, p.2, m.1) (xdomain_by (rows_with es a.tables.now) a.place (device_row a.place a.d) _ (sym c.upstream_route.ensures ∙ m.0))

pub returns : goal.returns
unfolding rows_with device_row route_or bind router_at
returns c = λ es. let a = c.args in
    ap value c.find_router.ensures ∙ xdomain_by (rows_with es a.tables.now) a.place (device_row a.place a.d) _ (sym c.upstream_route.ensures ∙ there _ _ _ c.ok_or.ensures.value _ c.in_ok-route.was)
