use mathlib.Core.Path.{sym, ap, ◌∙◌}
use Rattle.tables.specs.Found.{adapter_found, device_found}
use Rattle.tables.specs.Packed.{device_row}
use Rattle.fabric.proofs.Laws.{device_fits}
use Rattle.receive.specs.Receive.{or_dropped, beneath as below}
use Rattle.receive.specs.Work.{lane_outcome}
use Rattle.receive.proofs.Lanes.{no_router, beneath_by, beneath_at}
use Rattle.receive.proofs.beneath.Goals as goal
use Rattle.tables.specs.Tables.{rows_of}

pub returns-in_default : goal.returns-in_default
unfolding lane_outcome rows_of device_row device_found
returns-in_default c = λ p. record { is = λ k. no_router _ _ _ (ap (device_found _) (sym c.in_default.is) ∙ c.find_device.ensures) }

pub returns-in_default-downstream_adapter : goal.returns-in_default-downstream_adapter
unfolding lane_outcome rows_of device_row device_found below
returns-in_default-downstream_adapter c = λ p. record { is = λ k. let there = (ap (device_found _) (sym c.in-Some.is) ∙ c.find_device.ensures) in beneath_by _ _ _ _ _ _ there c.downstream_adapter.ensures c.in_default-downstream_adapter.is }

pub returns-in_default-find_adapter : goal.returns-in_default-find_adapter
unfolding lane_outcome rows_of device_row device_found adapter_found or_dropped
returns-in_default-find_adapter c = λ p. record {
  is = λ k. let there = (ap (device_found _) (sym c.in-Some.is) ∙ c.find_device.ensures) in
      beneath_at _ _ _ _ (ap (adapter_found _) (sym c.in_default-find_adapter.is) ∙ c.find_adapter.ensures.first (device_fits _ _ _ k there) k.adapters)
      ∙ beneath_by _ _ _ _ _ _ there c.downstream_adapter.ensures c.in-Some-downstream_adapter.is;
}

pub returns : goal.returns
unfolding lane_outcome rows_of device_row device_found adapter_found or_dropped
returns c = λ p. record {
  is = λ k. let there = (ap (device_found _) (sym c.in-Some.is) ∙ c.find_device.ensures) in
      c.hops_of.ensures
      ∙ beneath_at _ _ _ _ (ap (adapter_found _) (sym c.in-Some-find_adapter.is) ∙ c.find_adapter.ensures.first (device_fits _ _ _ k there) k.adapters)
      ∙ beneath_by _ _ _ _ _ _ there c.downstream_adapter.ensures c.in-Some-downstream_adapter.is;
}
