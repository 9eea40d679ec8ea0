use native.Mathlib.Omega.{arith}
use Rattle.named.proofs.Laws as laws
use Rattle.named.proofs.by_name.Goals as goal

pub loop-i-init : goal.loop-i-init
loop-i-init c = laws.seek_first _ _ _ _ _ _ _ c.next_register-i.ensures

pub overflow_add-i : goal.overflow_add-i
overflow_add-i c = omega (arith, c.loop-i.invariant.room c.loop-i-test.true)

pub overflow_add-i-in-loop-i : goal.overflow_add-i-in-loop-i
overflow_add-i-in-loop-i c = omega (arith, c.loop-i.invariant.room c.loop-i-test.true)

pub name_group-found-requires : goal.name_group-found-requires
name_group-found-requires c = c.offsets_named-o.ensures

pub returns-in-Some : goal.returns-in-Some
returns-in-Some c = let r = laws.seek_at _ _ _ _ _ _ _ c.loop-i.invariant c.loop-i-test.true _ _ c.word_at-ids.ensures c.word_at-vs.ensures _ c.name_group-found.ensures _ c.in-Some.is in record { answer = r.0; within = r.1 }

pub overflow_add-i-in-loop-i-2 : goal.overflow_add-i-in-loop-i-2
overflow_add-i-in-loop-i-2 c = omega (arith, c.loop-i.invariant.room c.loop-i-test.true)

pub loop-i-smaller : goal.loop-i-smaller
loop-i-smaller c = laws.seek_less _ _ _ _ c.loop-i-test.true c.next_register-i-in-loop-i.ensures

pub loop-i-preserved : goal.loop-i-preserved
loop-i-preserved c = laws.seek_on _ _ _ _ _ _ _ c.loop-i.invariant c.loop-i-test.true _ _ c.word_at-ids.ensures c.word_at-vs.ensures _ c.name_group-found.ensures c.in_default.is _ c.next_register-i-in-loop-i.ensures

pub returns : goal.returns
returns c = let r = laws.seek_none _ _ _ _ _ _ _ c.loop-i.invariant c.loop-i-test.false in record { answer = r.0; within = r.1 }
