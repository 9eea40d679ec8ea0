use mathlib.Core.Path.{◌≡◌, ◌∙◌, ap}
use native.Mathlib.Omega.{arith}
use Rattle.survey.specs.Places.{device_heads, group_at}
use Rattle.survey.proofs.Laws.{no_group, next_group, this_group}
use Rattle.places.proofs.device_group.Goals as goal

pub loop-init : goal.loop-init
unfolding device_heads
loop-init c = let n = c.next_device-at.ensures in (n.same, n.head, n.room)

pub returns-then-survey-at : goal.returns-then-survey-at
returns-then-survey-at c = no_group c.args.survey.now c.loop.counter c.loop.at c.loop.invariant.0 c.args.place (omega arith) c.if-survey-at.true

pub overflow_add-at : goal.overflow_add-at
overflow_add-at c = omega (arith, c.well_formed, c.if-survey-at.false)

pub next_device-at-requires-in-loop : goal.next_device-at-requires-in-loop
next_device-at-requires-in-loop c = c.loop.invariant.2 c.if-survey-at.false

pub loop-preserved : goal.loop-preserved
loop-preserved c = let n = c.next_device-at-in-loop.ensures in
    (next_group c.args.survey.now c.loop.counter c.loop.at c.loop.invariant.0 (c.loop.invariant.1 c.if-survey-at.false) ∙ n.same, n.head, n.room)

pub returns-then-survey-at-2 : goal.returns-then-survey-at-2
returns-then-survey-at-2 c = no_group c.args.survey.now c.loop.counter c.loop.at c.loop.invariant.0 c.args.place (omega arith) c.if-survey-at-2.true

pub overflow_add-at-2 : goal.overflow_add-at-2
overflow_add-at-2 c = omega (arith, c.well_formed, c.if-survey-at-2.false)

pub next_device-requires : goal.next_device-requires
next_device-requires c = c.loop.invariant.2 c.if-survey-at-2.false

pub returns : goal.returns
returns c = let e : c.loop.counter ≡ c.args.place = omega arith in
    this_group c.args.survey.now c.loop.counter c.loop.at c.loop.invariant.0 (c.loop.invariant.1 c.if-survey-at-2.false) c.next_device.result c.next_device.ensures ∙ ap (λ p. group_at c.args.survey.now p) e
