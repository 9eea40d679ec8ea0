use mathlib.Core.Path.{sym, ap, ◌∙◌}
use Rattle.std.specs.Prelude.{None}
use Rattle.std.proofs.lemmas.Result.{err_from_is_err_and}
use Rattle.tables.specs.Found.{device_found}
use Rattle.tables.specs.Rows.{adapter_in}
use Rattle.refusal.specs.Outcome.{bind}
use Rattle.refusal.specs.Refusal.{fault_outcome}
use Rattle.load.specs.Answers.{present}
use Rattle.load.proofs.Result.{tables_ended, tables_fit}
use Rattle.devices.specs.Calls.{on_adapter}
use Rattle.devices.proofs.Laws.{asked, missing, there, adapter_missing, adapter_there}
use Rattle.routing.proofs.ask.Goals as goal

pub returns-in_err-tables : goal.returns-in_err-tables
unfolding on_adapter
returns-in_err-tables g c = λ f h. let p = err_from_is_err_and c.from_residual.result c.from_residual.ensures.1 in
    rw (p.1, p.2) (tables_ended _ _ (c.tables.ensures.rows ∙ c.load-loaded.ensures) _ _ c.in_err-tables.was)

pub returns-in_err-device : goal.returns-in_err-device
unfolding on_adapter present bind device_found
returns-in_err-device g c = λ f h. let p = err_from_is_err_and c.from_residual-in_err-device.result c.from_residual-in_err-device.ensures.1 in
    let m = missing _ _ c.ok_or.ensures.value _ c.in_err-device.was in
    rw (p.1, p.2, m.1) (asked _ _ _ _ (λ x d. bind (present (adapter_in x.adapters c.args.site.place c.args.site.adapter)) (f d)) None (c.tables.ensures.rows ∙ c.load-loaded.ensures) c.in_ok-tables.was (sym (ap (device_found _) m.0) ∙ c.find_device.ensures))

pub returns-in_err-adapter : goal.returns-in_err-adapter
returns-in_err-adapter g c = λ f h. let p = err_from_is_err_and c.from_residual-in_err-adapter.result c.from_residual-in_err-adapter.ensures.1 in
    let m = missing _ _ c.ok_or-2.ensures.value _ c.in_err-adapter.was in
    let t = c.tables.ensures in let k = c.in_ok-tables.was in
    rw (p.1, p.2, m.1) (adapter_missing _ _ _ _ _ _ f (t.rows ∙ c.load-loaded.ensures) k (tables_fit _ _ k t.fits).1 _ c.find_device.ensures _ (there _ _ c.ok_or.ensures.value _ c.in_ok-device.was) _ c.find_adapter-found.ensures m.0)

pub returns-in_err-route : goal.returns-in_err-route
returns-in_err-route g c = λ f h. let p = err_from_is_err_and c.from_residual-in_err-route.result c.from_residual-in_err-route.ensures.1 in
    let t = c.tables.ensures in let k = c.in_ok-tables.was in
    rw (p.1, p.2) (sym (ap fault_outcome c.in_err-route.was) ∙ h _ _ _ c.route.ensures
    ∙ adapter_there _ _ _ _ _ _ f (t.rows ∙ c.load-loaded.ensures) k (tables_fit _ _ k t.fits).1 _ c.find_device.ensures _ (there _ _ c.ok_or.ensures.value _ c.in_ok-device.was) _ c.find_adapter-found.ensures _ (there _ _ c.ok_or-2.ensures.value _ c.in_ok-adapter.was))

pub returns : goal.returns
returns g c = λ f h. let t = c.tables.ensures in let k = c.in_ok-tables.was in
    sym (ap fault_outcome c.in_ok-route.was) ∙ h _ _ _ c.route.ensures
    ∙ adapter_there _ _ _ _ _ _ f (t.rows ∙ c.load-loaded.ensures) k (tables_fit _ _ k t.fits).1 _ c.find_device.ensures _ (there _ _ c.ok_or.ensures.value _ c.in_ok-device.was) _ c.find_adapter-found.ensures _ (there _ _ c.ok_or-2.ensures.value _ c.in_ok-adapter.was)
