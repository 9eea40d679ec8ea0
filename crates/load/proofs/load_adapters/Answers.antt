use Rattle.std.proofs.lemmas.Result.{err_from_is_err_and}
use Rattle.load.proofs.Joining.{adapting_start, adapting_past, adapting_device, adapting_fault, adapting_next}
use native.Mathlib.Omega.{arith}
use Rattle.load.proofs.load_adapters.Goals as goal

pub loop-i-init : goal.loop-i-init
loop-i-init c = adapting_start _ _ _ _ _ _ _ c.requires.0 c.next_head-i.ensures

pub returns-then-survey-i-ne4 : goal.returns-then-survey-i-ne4
returns-then-survey-i-ne4 c = let r = adapting_device _ _ _ _ _ _ _ _ c.loop-i.invariant c.loop-i-test.true c.if-survey-i-ne4.true in record { rows = r.0; within = r.1 }

pub returns-in_err-next-clause-rows : goal.returns-in_err-next-clause-rows
returns-in_err-next-clause-rows c = let p = err_from_is_err_and c.from_residual.result c.from_residual.ensures.1 in
    rw (p.1, p.2) (adapting_fault _ _ _ _ _ _ _ _ c.loop-i.invariant c.loop-i-test.true c.if-survey-i-ne4.false _ _ c.load_adapter.ensures.rows _ c.in_err-next.was _)

pub loop-i-smaller : goal.loop-i-smaller
loop-i-smaller c = let g = adapting_next _ _ _ _ _ _ _ _ c.loop-i.invariant c.loop-i-test.true c.if-survey-i-ne4.false _ _ c.load_adapter.ensures.rows _ _ c.in_ok-next.was c.in_ok-next.ensures.within c.next_head-i-in-loop-i.ensures in
    omega (arith, g.0, c.loop-i-test.true)

pub loop-i-preserved : goal.loop-i-preserved
loop-i-preserved c = (adapting_next _ _ _ _ _ _ _ _ c.loop-i.invariant c.loop-i-test.true c.if-survey-i-ne4.false _ _ c.load_adapter.ensures.rows _ _ c.in_ok-next.was c.in_ok-next.ensures.within c.next_head-i-in-loop-i.ensures).1

pub returns : goal.returns
returns c = let r = adapting_past _ _ _ _ _ _ _ _ c.loop-i.invariant c.loop-i-test.false in record { rows = r.0; within = r.1 }
