use Rattle.std.proofs.lemmas.Result.{err_from_is_err_and}
use Rattle.load.proofs.Joining.{filling_start, filling_adapter, filling_end, filling_fault, filling_next}
use native.Mathlib.Omega.{arith}
use Rattle.load.proofs.fill.Goals as goal

pub loop-i-init : goal.loop-i-init
loop-i-init c = filling_start _ _ _ _ c.clear.ensures c.requires c.next_head-i.ensures

pub loop-i-smaller-then-survey-i-eq4 : goal.loop-i-smaller-then-survey-i-eq4
loop-i-smaller-then-survey-i-eq4 c = omega (arith, (filling_adapter _ _ _ _ _ c.loop-i.invariant _ c.loop-i-test.true c.if-survey-i-eq4.true c.next_head-i-then-survey-i-eq4.ensures).0, c.loop-i-test.true)

pub loop-i-preserved-then-survey-i-eq4 : goal.loop-i-preserved-then-survey-i-eq4
loop-i-preserved-then-survey-i-eq4 c = (filling_adapter _ _ _ _ _ c.loop-i.invariant _ c.loop-i-test.true c.if-survey-i-eq4.true c.next_head-i-then-survey-i-eq4.ensures).1

pub returns-in_err-i : goal.returns-in_err-i
returns-in_err-i c = let p = err_from_is_err_and c.from_residual.result c.from_residual.ensures.1 in
    rw (p.1, p.2) (filling_fault _ _ _ _ _ c.loop-i.invariant c.loop-i-test.true c.if-survey-i-eq4.false _ _ c.load_device.ensures.rows _ c.in_err-i.was _)

pub loop-i-smaller : goal.loop-i-smaller
loop-i-smaller c = omega (arith, (filling_next _ _ _ _ _ c.loop-i.invariant c.loop-i-test.true c.if-survey-i-eq4.false _ _ c.load_device.ensures.rows _ c.in_ok-i.was c.in_ok-i.ensures.within).0, c.loop-i-test.true)

pub loop-i-preserved : goal.loop-i-preserved
loop-i-preserved c = (filling_next _ _ _ _ _ c.loop-i.invariant c.loop-i-test.true c.if-survey-i-eq4.false _ _ c.load_device.ensures.rows _ c.in_ok-i.was c.in_ok-i.ensures.within).1

pub returns : goal.returns
returns c = filling_end _ _ _ _ _ c.loop-i.invariant c.loop-i-test.false _
