use native.Mathlib.Omega.{arith}
use Rattle.named.proofs.Laws.{seek_less}
use Rattle.state.proofs.Laws as laws
use Rattle.state.proofs.by_offset.Goals as goal

pub loop-i-init : goal.loop-i-init
loop-i-init c = laws.seek_first _ _ _ _ c.next_register-i.ensures

pub returns-then-survey-i : goal.returns-then-survey-i
returns-then-survey-i c = laws.seek_here _ _ _ _ c.loop-i.invariant c.loop-i-test.true c.if-survey-i.true

pub overflow_add-i : goal.overflow_add-i
overflow_add-i c = omega (arith, c.loop-i.invariant.room c.loop-i-test.true)

pub loop-i-smaller : goal.loop-i-smaller
loop-i-smaller c = seek_less _ _ _ _ c.loop-i-test.true c.next_register-i-in-loop-i.ensures

pub loop-i-preserved : goal.loop-i-preserved
loop-i-preserved c = laws.seek_on _ _ _ _ c.loop-i.invariant c.loop-i-test.true c.if-survey-i.false _ c.next_register-i-in-loop-i.ensures

pub returns : goal.returns
returns c = laws.seek_end _ _ _ _ c.loop-i.invariant c.loop-i-test.false
