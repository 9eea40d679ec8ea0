use Rattle.std.specs.Prelude.{Ok, Err}
use Rattle.refusal.proofs.Laws.{no_field}
use Rattle.refusal.specs.Outcome.{bind, value}
use Rattle.refusal.specs.Refusal.{refusal_of, field_at}
use Rattle.adapter.specs.Adapter.{adapter_site}
use Rattle.tables.specs.Found.{device_found}
use Rattle.tables.specs.Packed.{device_row}
use Rattle.fabric.proofs.Laws.{router_fits, to_none, to_device_lem, went_down}
use mathlib.Core.Path.{sym, ap, ◌∙◌}
use Rattle.fabric.specs.Fabric.{stand_at, down_by, to_device}
use Rattle.fabric.specs.Tables.{rows_with, next_outcome}
use Rattle.fabric.proofs.go_down.Goals as goal

pub returns-in_default : goal.returns-in_default
unfolding next_outcome rows_with device_row
returns-in_default c = λ p. record { leads_to = λ k es. to_none _ _ _ _ ((sym c.in_default.is) ∙ c.find_router.ensures) }

pub returns-in_default-find_device : goal.returns-in_default-find_device
unfolding next_outcome rows_with device_row device_found to_device
returns-in_default-find_device c = λ p. record {
  leads_to = λ k es. let at = (sym c.in-Some.is) ∙ c.find_router.ensures in
      to_device_lem _ _ _ _ _ _ at (ap (device_found _) (sym c.in_default-find_device.is) ∙ c.find_device.ensures);
}

pub returns-in-Ok-None : goal.returns-in-Ok-None
unfolding next_outcome rows_with device_row device_found bind down_by
returns-in-Ok-None c = λ p. record {
  leads_to = λ k es. let at = (sym c.in-Some.is) ∙ c.find_router.ensures in
      let there = ap (device_found _) (sym c.in-Some-find_device.is) ∙ c.find_device.ensures in
      went_down _ _ _ _ _ at there _ (ap (field_at (adapter_site _ 0)) (sym (c.in-Ok-None.is ∙ ap Ok (rw c.in-Ok-None.is at c.in-Ok-None.field-0-is))));
}

pub returns-in-Err-NoField : goal.returns-in-Err-NoField
unfolding next_outcome rows_with device_row device_found bind refusal_of adapter_site
returns-in-Err-NoField c = λ p. record {
  leads_to = λ k es. let at = (sym c.in-Some.is) ∙ c.find_router.ensures in
      let there = ap (device_found _) (sym c.in-Some-find_device.is) ∙ c.find_device.ensures in
      went_down _ _ _ _ _ at there _ (ap (field_at (adapter_site _ 0)) (sym (c.in-Err-NoField.is ∙ ap Err (no_field _))));
}

pub returns-in-Ok-Some : goal.returns-in-Ok-Some
unfolding next_outcome rows_with device_row device_found bind down_by stand_at
returns-in-Ok-Some c = λ p. record {
  leads_to = λ k es. let at = (sym c.in-Some.is) ∙ c.find_router.ensures in
      let there = ap (device_found _) (sym c.in-Some-find_device.is) ∙ c.find_device.ensures in
      ap value (c.stand_at.ensures k (router_fits _ _ _ _ k at)) ∙ went_down _ _ _ _ _ at there _ (ap (field_at (adapter_site _ 0)) (sym (c.in-Ok-Some.is ∙ ap Ok (rw c.in-Ok-Some.is at c.in-Ok-Some.field-0-is))));
}
