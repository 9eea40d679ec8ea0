use mathlib.Core.Path.{sym, ap, ◌∙◌}
use native.Mathlib.Omega.{arith}
use Rattle.layout.specs.Layout.{size_of}
use Rattle.layout.proofs.Laws.{size_small, size_pos}
use Rattle.naming.proofs.Naming as naming
use Rattle.naming.proofs.find_group.Goals as goal
use Rattle.naming.proofs.find_group.Goals.{then-is_candidate+else-found-descriptions, else-is_candidate}

pub loop-i-init : goal.loop-i-init
loop-i-init c = naming.find_all _ _

pub returns-then-found-descriptions : goal.returns-then-found-descriptions
returns-then-found-descriptions c = naming.find_second _ _ _ _ c.loop-i.invariant (omega arith) (sym c.is_candidate.ensures ∙ c.if-is_candidate.true) c.if-found-descriptions.true

pub overflow_add-i : goal.overflow_add-i
overflow_add-i c = omega (arith, size_small _ _ c.group_size-i.ensures)

pub loop-i-smaller : goal.loop-i-smaller
loop-i-smaller c = let e = c.group_size-i.ensures in omega (arith, size_pos c.word_at.result)

pub loop-i-preserved : goal.loop-i-preserved
loop-i-preserved c = let h = c.loop-i.invariant in let z = c.group_size-i.ensures ∙ ap size_of c.word_at.ensures in let e = sym c.is_candidate.ensures in
    elim c.if-is_candidate.branch [
      | then-is_candidate+else-found-descriptions w ↦ naming.find_first _ _ _ _ h (omega arith) (e ∙ w.if-is_candidate.true) w.if-found-descriptions.false _ _ z w.found-is
      | else-is_candidate w ↦ naming.find_pass _ _ _ _ h (omega arith) (e ∙ w.if-is_candidate.false) _ _ z w.found-is
    ]

pub returns-then-found-descriptions-2 : goal.returns-then-found-descriptions-2
returns-then-found-descriptions-2 c = naming.find_one _ _ _ _ c.loop-i.invariant c.loop-i-test.false c.if-found-descriptions-2.true

pub returns-else-found-descriptions-2 : goal.returns-else-found-descriptions-2
returns-else-found-descriptions-2 c = naming.find_none _ _ _ _ c.loop-i.invariant c.loop-i-test.false c.if-found-descriptions-2.false
