use mathlib.Core.Path.{◌∙◌, ap}
use Rattle.std.specs.Prelude.{Some}
use Rattle.tunnel.specs.Plans.{planned_as}
use Rattle.discovery.proofs.Writing.{plan_none, plan_full, plan_put_1, plan_put_2, plan_put_3}
use Rattle.discovery.proofs.put_plan.Goals as goal

pub returns-in_default : goal.returns-in_default
returns-in_default c = plan_none _ _ _ _ c.requires c.in_default.is

pub returns-then-output-at : goal.returns-then-output-at
returns-then-output-at c = plan_full _ _ _ _ c.requires c.if-output-at.true

pub returns-in-One : goal.returns-in-One
returns-in-One c = let p = c.in-Some.p in
    plan_put_1 _ _ _ _ _ _ _ c.if-output-at.false _ _ (c.in-Some.is ∙ ap (λ s. Some (planned_as p.kind p.closed p.words s)) c.in-One.is) c.tunnel_word.ensures _ _ c.put_start.ensures

pub returns-in-Two : goal.returns-in-Two
returns-in-Two c = let p = c.in-Some.p in
    plan_put_2 _ _ _ _ _ _ _ c.if-output-at.false _ _ _ (c.in-Some.is ∙ ap (λ s. Some (planned_as p.kind p.closed p.words s)) c.in-Two.is) c.tunnel_word-in-Two.ensures _ _ c.put_start-a.ensures _ _ c.put_start-in-Two.ensures

pub returns-in-Three : goal.returns-in-Three
returns-in-Three c = let p = c.in-Some.p in
    plan_put_3 _ _ _ _ _ _ _ c.if-output-at.false _ _ _ _ (c.in-Some.is ∙ ap (λ s. Some (planned_as p.kind p.closed p.words s)) c.in-Three.is) c.tunnel_word-in-Three.ensures _ _ c.put_start-a-in-Three.ensures _ _ c.put_start-b.ensures _ _ c.put_start-in-Three.ensures
