use mathlib.Core.Path.{ap, sym, ◌∙◌}
use Rattle.std.specs.Prelude.{Err}
use Rattle.std.proofs.lemmas.Result.{err_from_is_err_and}
use Rattle.tables.specs.Packed.{device_row}
use Rattle.adapter.specs.Adapter.{adapter_site}
use Rattle.refusal.specs.Refusal.{field_at}
use Rattle.refusal.proofs.Laws.{no_field}
use Rattle.devices.specs.Calls.{upstream_answer}
use Rattle.devices.proofs.Laws.{read_refused, read_device_lem}
use Rattle.devices.proofs.upstream_adapter.Goals as goal

pub returns-in_err-d : goal.returns-in_err-d
unfolding upstream_answer
returns-in_err-d c = let p = err_from_is_err_and c.from_residual.result c.from_residual.ensures.1 in
    rw (p.1, p.2) (read_refused _ _ _ _ _ c.read_device.ensures _ c.in_err-d.was)

pub returns-in-Ok : goal.returns-in-Ok
unfolding upstream_answer device_row
returns-in-Ok c = sym (ap (field_at (adapter_site c.args.place 0)) c.in-Ok.is) ∙ read_device_lem _ _ _ (λ x. x.upstream) _ c.read_device.ensures _ c.in_ok-d.was

pub returns-in-Err-NoField : goal.returns-in-Err-NoField
unfolding upstream_answer device_row adapter_site
returns-in-Err-NoField c = sym (ap (field_at (adapter_site c.args.place 0)) (c.in-Err-NoField.is ∙ ap Err (no_field _))) ∙ read_device_lem _ _ _ (λ x. x.upstream) _ c.read_device.ensures _ c.in_ok-d.was
