use Rattle.refusal.specs.Outcome.{value}
use Rattle.fabric.proofs.Laws.{router_fits, to_none, to_device_lem, went_up}
use mathlib.Core.Path.{sym, ap, ◌∙◌}
use Rattle.tables.specs.Found.{device_found}
use Rattle.tables.specs.Packed.{device_row}
use Rattle.fabric.specs.Fabric.{stand_at, up_by, to_device}
use Rattle.fabric.specs.Tables.{rows_with, next_outcome}
use Rattle.fabric.proofs.go_up.Goals as goal

pub returns-in_default : goal.returns-in_default
unfolding next_outcome rows_with device_row
returns-in_default c = λ p. record { leads_to = λ k es. to_none _ _ _ _ ((sym c.in_default.is) ∙ c.find_router.ensures) }

pub returns-in_default-find_device : goal.returns-in_default-find_device
unfolding next_outcome rows_with device_row device_found to_device
returns-in_default-find_device c = λ p. record {
  leads_to = λ k es. let at = (sym c.in-Some.is) ∙ c.find_router.ensures in
      to_device_lem _ _ _ _ _ _ at (ap (device_found _) (sym c.in_default-find_device.is) ∙ c.find_device.ensures);
}

pub returns-in_default-downstream_adapter : goal.returns-in_default-downstream_adapter
unfolding next_outcome rows_with device_row device_found up_by
returns-in_default-downstream_adapter c = λ p. record {
  leads_to = λ k es. let at = (sym c.in-Some.is) ∙ c.find_router.ensures in
      let there = ap (device_found _) (sym c.in-Some-find_device.is) ∙ c.find_device.ensures in
      went_up _ _ _ _ _ at there _ _ c.downstream_adapter.ensures c.in_default-downstream_adapter.is;
}

pub returns : goal.returns
unfolding next_outcome rows_with device_row device_found up_by stand_at
returns c = λ p. record {
  leads_to = λ k es. let at = (sym c.in-Some.is) ∙ c.find_router.ensures in
      let there = ap (device_found _) (sym c.in-Some-find_device.is) ∙ c.find_device.ensures in
      ap value (c.stand_at.ensures k (router_fits _ _ _ _ k at)) ∙ went_up _ _ _ _ _ at there _ _ c.downstream_adapter.ensures c.in-Some-downstream_adapter.is;
}
