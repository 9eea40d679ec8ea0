use Rattle.refusal.proofs.Laws.{no_field}
use Rattle.std.specs.Prelude.{Ok, Err}
use mathlib.Core.Path.{sym, ap, ◌∙◌}
use Rattle.adapter.specs.Adapter.{adapter_site, facts_row}
use Rattle.refusal.specs.Outcome.{bind}
use Rattle.refusal.specs.Refusal.{refusal_of, field_at}
use Rattle.receive.specs.Receive.{or_dropped}
use Rattle.receive.specs.Work.{lane_outcome}
use Rattle.receive.proofs.Lanes.{no_least, with_least}
use Rattle.receive.proofs.hops_of.Goals as goal

pub returns-in_default : goal.returns-in_default
unfolding lane_outcome facts_row
returns-in_default c = no_least _ _ ((sym c.in_default.is) ∙ c.min_hop.ensures)

pub returns-in-Ok-None : goal.returns-in-Ok-None
unfolding lane_outcome facts_row bind or_dropped
returns-in-Ok-None c = with_least _ _ _ _ ((sym c.in-Some.is) ∙ c.min_hop.ensures) (ap (field_at _) (sym (c.in-Ok-None.is ∙ ap Ok (rw c.in-Ok-None.is at c.in-Ok-None.field-0-is))))

pub returns-in-Err-NoField : goal.returns-in-Err-NoField
unfolding lane_outcome facts_row bind or_dropped refusal_of adapter_site
returns-in-Err-NoField c = with_least _ _ _ _ ((sym c.in-Some.is) ∙ c.min_hop.ensures) (ap (field_at _) (sym (c.in-Err-NoField.is ∙ ap Err (no_field _))))

pub returns-in-Ok-Some : goal.returns-in-Ok-Some
unfolding lane_outcome facts_row bind or_dropped
returns-in-Ok-Some c = with_least _ _ _ _ ((sym c.in-Some.is) ∙ c.min_hop.ensures) (ap (field_at _) (sym (c.in-Ok-Some.is ∙ ap Ok (rw c.in-Ok-Some.is at c.in-Ok-Some.field-0-is))))
