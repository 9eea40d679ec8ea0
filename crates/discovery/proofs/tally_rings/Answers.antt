use Rattle.std.proofs.lemmas.Result.{err_from_is_err_and}
use mathlib.Core.Path.{sym, ◌∙◌}
use native.Mathlib.Omega.{arith}
use Rattle.discovery.proofs.Rings.{counted_start, counted_end, counted_on, counted_past, counted_refused, tally_few, idle_marked, ring_idle, putting_start, putting_on, putting_drafted, drafted_refused, ring_put}
use Rattle.discovery.proofs.tally_rings.Goals as goal

pub loop-ring-init : goal.loop-ring-init
loop-ring-init c = (counted_start _ _ _ _ c.requires.0, c.requires.2, putting_start _ _ _ _ _ c.requires.0)

pub loop-ring-preserved-then-is_idle : goal.loop-ring-preserved-then-is_idle
loop-ring-preserved-then-is_idle c = let i = c.loop-ring.invariant in
    let e = sym c.is_idle.ensures ∙ c.if-is_idle.true in
    (counted_past _ _ _ _ _ _ i.0 c.loop-ring-test.true _ i.1 e, i.1, putting_on _ _ _ _ _ _ _ _ i.2 c.loop-ring-test.true _ _ (ring_idle _ _ _ _ i.1 _ e _ _ i.2.within))

pub plan_ring-requires : goal.plan_ring-requires
plan_ring-requires c = c.requires.3

pub shape_of-draft-in_err-plan : goal.shape_of-draft-in_err-plan
shape_of-draft-in_err-plan c = c.loop-ring.invariant.2.long

pub returns-in_err-plan : goal.returns-in_err-plan
returns-in_err-plan c = let i = c.loop-ring.invariant in
    let u = counted_refused _ _ _ _ _ _ i.0 c.loop-ring-test.true _ (rw c.in_err-plan.was at c.plan_ring.ensures) in
    let p = err_from_is_err_and c.from_residual.result c.from_residual.ensures.1 in
    rw (p.1, p.2) record { tallies = (u, i.1); drafted = drafted_refused _ _ _ _ _ u _ }

pub overflow_add-need : goal.overflow_add-need
overflow_add-need c = omega (arith, c.loop-ring.invariant.0.few, c.loop-ring.invariant.0.to, c.requires.1, tally_few _ _ (sym c.tally_plan-words.ensures) (rw c.in_ok-plan.was at c.plan_ring.ensures).few)

pub put_plan-at-requires : goal.put_plan-at-requires
put_plan-at-requires c = c.loop-ring.invariant.2.within

pub loop-ring-preserved : goal.loop-ring-preserved
loop-ring-preserved c = let i = c.loop-ring.invariant in
    let w = sym c.tally_plan-words.ensures in
    let f = rw c.in_ok-plan.was at c.plan_ring.ensures in (
      counted_on _ _ _ _ _ _ i.0 c.loop-ring-test.true _ f _ w,
      idle_marked _ _ _ _ _ i.1 _ _ f _ w c.mark.ensures,
      putting_on _ _ _ _ _ _ _ _ i.2 c.loop-ring-test.true _ _ (ring_put _ _ _ _ _ f _ _ _ _ c.put_plan-at.ensures),
    )

pub shape_of-draft : goal.shape_of-draft
shape_of-draft c = c.loop-ring.invariant.2.long

pub returns : goal.returns
returns c = let i = c.loop-ring.invariant in
    record { tallies = (counted_end _ _ _ _ _ _ i.0 c.loop-ring-test.false, i.1); drafted = putting_drafted _ _ _ _ _ _ _ _ i.2 c.loop-ring-test.false }
