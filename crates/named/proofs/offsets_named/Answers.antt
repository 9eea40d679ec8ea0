use native.Mathlib.Omega.{arith}
use mathlib.Core.Path.{ap, ◌∙◌}
use Rattle.layout.specs.Layout.{size_of}
use Rattle.layout.proofs.Laws.{size_small, size_pos}
use Rattle.named.proofs.Spans as spans
use Rattle.named.proofs.offsets_named.Goals as goal

pub loop-i-init : goal.loop-i-init
loop-i-init c = spans.count_first _ _ _

pub overflow_add-i : goal.overflow_add-i
overflow_add-i c = omega (arith, size_small _ _ c.group_size-i.ensures)

pub loop-i-smaller : goal.loop-i-smaller
loop-i-smaller c = let e = c.group_size-i.ensures in omega (arith, size_pos c.word_at.result)

pub loop-i-preserved : goal.loop-i-preserved
loop-i-preserved c = spans.count_on _ _ _ _ c.loop-i.invariant c.loop-i-test.true _ c.counted-o.ensures _ (c.group_size-i.ensures ∙ ap size_of c.word_at.ensures)

pub returns : goal.returns
returns c = spans.count_end _ _ _ _ c.loop-i.invariant c.loop-i-test.false
