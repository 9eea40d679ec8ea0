use Rattle.std.specs.Prelude.{Some}
use mathlib.Core.Path.{sym, ap, ◌∙◌}
use Rattle.adapter.specs.Adapter.{adapter_site}
use Rattle.tables.specs.Found.{device_found}
use Rattle.tables.specs.Packed.{device_row}
use Rattle.fabric.specs.Tables.{rows_with, next_outcome}
use Rattle.fabric.proofs.Laws.{leads_missing, leads_nowhere, leads_other, leads_lane}
use Rattle.fabric.proofs.leads.Goals as goal

pub returns-in_default : goal.returns-in_default
unfolding next_outcome rows_with device_found
returns-in_default c = record { leads_to = λ k es. leads_missing _ _ _ (ap (device_found _) (sym c.in_default.is) ∙ c.find_device.ensures) }

pub returns-in-None : goal.returns-in-None
unfolding next_outcome device_found adapter_site
returns-in-None c = record { leads_to = λ k es. let there = ap (device_found _) (sym c.in-Some.is) ∙ c.find_device.ensures in leads_nowhere _ _ _ _ k _ there _ c.find_lane.ensures c.in-None.is }

pub returns-in-Some-false : goal.returns-in-Some-false
unfolding next_outcome device_found
returns-in-Some-false c = record { leads_to = λ k es. let there = ap (device_found _) (sym c.in-Some.is) ∙ c.find_device.ensures in leads_other _ _ _ _ k _ there _ c.find_lane.ensures (c.in-Some-false.is ∙ ap Some c.in-Some-false.field-0-test) }

pub returns-in-Some-true : goal.returns-in-Some-true
unfolding device_found device_row
returns-in-Some-true c = record { leads_to = λ k es. let there = ap (device_found _) (sym c.in-Some.is) ∙ c.find_device.ensures in c.lane_leads.ensures.leads_to k es ∙ leads_lane _ _ _ _ k _ there _ c.find_lane.ensures (c.in-Some-true.is ∙ ap Some c.in-Some-true.field-0-test) }
