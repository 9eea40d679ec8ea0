use mathlib.Core.Path.{refl, sym, ap, ◌∙◌}
use native.Mathlib.Omega.{arith}
use Rattle.layout.specs.Layout.{size_of}
use Rattle.layout.proofs.Laws.{size_small, size_pos}
use Rattle.fields.proofs.Names as names
use Rattle.fields.proofs.find_field.Goals as goal

pub returns-then-descriptions-place : goal.returns-then-descriptions-place
returns-then-descriptions-place c = let a = c.args in names.fields_end _ _ _ _ (names.fields_all a.descriptions.now a.place a.name.now _ refl) (omega arith)

pub overflow_add-i : goal.overflow_add-i
overflow_add-i c = omega (arith, size_small _ _ c.group_size.ensures)

pub loop-i-init : goal.loop-i-init
loop-i-init c = names.fields_all _ _ _ _ (c.group_size.ensures ∙ ap size_of c.word_at.ensures)

pub returns-then-w-ne2 : goal.returns-then-w-ne2
returns-then-w-ne2 c = names.fields_other _ _ _ _ c.loop-i.invariant (omega arith) _ c.word_at-w.ensures c.if-w-ne2.true

pub returns-then-field_is : goal.returns-then-field_is
returns-then-field_is c = names.fields_here _ _ _ _ c.loop-i.invariant (omega arith) _ c.word_at-w.ensures c.if-w-ne2.false (sym c.field_is.ensures ∙ c.if-field_is.true)

pub overflow_add-i-in-loop-i : goal.overflow_add-i-in-loop-i
overflow_add-i-in-loop-i c = omega (arith, size_small _ _ c.group_size-i.ensures)

pub loop-i-smaller : goal.loop-i-smaller
loop-i-smaller c = let e = c.group_size-i.ensures in omega (arith, size_pos c.word_at-w.result)

pub loop-i-preserved : goal.loop-i-preserved
loop-i-preserved c = names.fields_more _ _ _ _ c.loop-i.invariant (omega arith) _ c.word_at-w.ensures c.if-w-ne2.false (sym c.field_is.ensures ∙ c.if-field_is.false) _ c.group_size-i.ensures

pub returns : goal.returns
returns c = names.fields_end _ _ _ _ c.loop-i.invariant c.loop-i-test.false
