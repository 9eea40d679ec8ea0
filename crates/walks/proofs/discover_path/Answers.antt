use Rattle.std.proofs.lemmas.Result.{err_from_is_err_and}
use mathlib.Core.Path.{sym, ap, ◌∙◌}
use native.Mathlib.Omega.{arith}
use Prim.Native.Nat.{◌<◌}
use Rattle.tables.specs.Found.{device_found, adapter_found}
use Rattle.fabric.proofs.Laws.{device_below}
use Rattle.load.proofs.Result.{tables_ended, tables_fit}
use Rattle.walks.proofs.Laws as laws
use Rattle.walks.proofs.discover_path.Goals as goal

pub returns-in_err-tables : goal.returns-in_err-tables
returns-in_err-tables c = let p = err_from_is_err_and c.from_residual.result c.from_residual.ensures.1 in
    rw (p.1, p.2) (laws.turned_away _ _ _ _ _ (tables_ended _ _ (c.tables.ensures.rows ∙ c.load.ensures) _ _ c.in_err-tables.was))

pub returns-in_default : goal.returns-in_default
unfolding device_found
returns-in_default c = laws.turned_away _ _ _ _ _ (laws.no_device _ _ (c.tables.ensures.rows ∙ c.load.ensures) _ c.in_ok-tables.was _ _ (sym (ap (device_found _) c.in_default.is) ∙ c.find_device.ensures))

pub returns-in_default-find_adapter : goal.returns-in_default-find_adapter
unfolding device_found adapter_found
returns-in_default-find_adapter c =
    let f = sym (ap (device_found _) c.in-Some.is) ∙ c.find_device.ensures in
    let t = tables_fit _ _ c.in_ok-tables.was c.tables.ensures.fits in
    let w : c.args.stand.place < 65536 = omega (arith, device_below _ _ _ (sym f), t.1.others.devices) in
    laws.turned_away _ _ _ _ _ (laws.no_adapter _ _ (c.tables.ensures.rows ∙ c.load.ensures) _ c.in_ok-tables.was _ _ _ f (sym (ap (adapter_found _) c.in_default-find_adapter.is) ∙ c.find_adapter.ensures.first w t.1.others.adapters))

pub returns : goal.returns
unfolding device_found adapter_found
returns c =
    let f = sym (ap (device_found _) c.in-Some.is) ∙ c.find_device.ensures in
    let t = tables_fit _ _ c.in_ok-tables.was c.tables.ensures.fits in
    let w : c.args.stand.place < 65536 = omega (arith, device_below _ _ _ (sym f), t.1.others.devices) in
    let h = sym (ap (adapter_found _) c.in-Some-find_adapter.is) ∙ c.find_adapter.ensures.first w t.1.others.adapters in
    laws.put_done _ _ _ _ _ _ _ (laws.rows_loaded _ _ (c.tables.ensures.rows ∙ c.load.ensures) _ c.in_ok-tables.was) (laws.asked_device_lem _ _ _ f) (laws.asked_adapter_lem _ _ _ _ _ f h) t.0.sized t.1 w _ _ c.put_path.ensures
