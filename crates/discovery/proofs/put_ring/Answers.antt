use mathlib.Core.Path.{sym, ◌∙◌}
use Rattle.discovery.proofs.Rings.{not_ok, ring_idle, ring_put, ring_unput}
use Rattle.discovery.proofs.put_ring.Goals as goal

pub returns-then-is_idle : goal.returns-then-is_idle
returns-then-is_idle c = ring_idle _ _ _ _ c.requires.2 _ (sym c.is_idle.ensures ∙ c.if-is_idle.true) _ _ c.requires.1

pub returns-in_default : goal.returns-in_default
returns-in_default c = let e = not_ok c.plan_ring.result c.in_default.not-Ok in ring_unput _ _ _ _ e.0 (rw e.1 at c.plan_ring.ensures) _ _ c.requires.1

pub plan_ring-requires : goal.plan_ring-requires
plan_ring-requires c = c.requires.3

pub put_plan-requires : goal.put_plan-requires
put_plan-requires c = c.requires.1

pub returns : goal.returns
returns c = ring_put _ _ _ _ _ (rw c.in-Ok.is at c.plan_ring.ensures) _ _ _ _ c.put_plan.ensures
