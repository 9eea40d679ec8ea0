use borrow.Author.Tests.{lt-ltb, le-ltb, not-true, not-false}
use mathlib.Core.Path.{refl, sym, ap, ◌∙◌}
use native.Mathlib.Omega.{arith}
use Rattle.layout.proofs.Laws as groups
use Rattle.description.proofs.Laws as laws
use Rattle.layout.specs.Layout.{size_of}
use Rattle.description.specs.Rules.{check_of}
use mathlib.Core.Bool.{not}
use Rattle.description.proofs.check.Goals as goal

pub returns-then-descriptions-gt-MAX_WORDS : goal.returns-then-descriptions-gt-MAX_WORDS
unfolding check_of
returns-then-descriptions-gt-MAX_WORDS c = simp (lt-ltb _ _ c.if-descriptions-gt-MAX_WORDS.true)

pub loop-i-init : goal.loop-i-init
loop-i-init c = ((_, groups.rest_all _, refl), omega arith)

pub returns-then-not-good_group : goal.returns-then-not-good_group
unfolding check_of
returns-then-not-good_group c = simp (le-ltb _ _ c.loop-i.invariant.1, laws.check_bad _ _ c.loop-i.invariant.0 (omega arith) (sym c.good_group.ensures ∙ not-true _ (ap (λ b. not b) c.if-not-good_group.true)))

pub overflow_add-i : goal.overflow_add-i
overflow_add-i c = omega (arith, groups.size_small _ _ c.group_size-i.ensures)

pub loop-i-smaller : goal.loop-i-smaller
loop-i-smaller c = let e = c.group_size-i.ensures in omega (arith, groups.size_pos c.word_at.result)

pub loop-i-preserved : goal.loop-i-preserved
loop-i-preserved c = let h = c.loop-i.invariant in
    (laws.check_more _ _ h.0 (omega arith) (sym c.good_group.ensures ∙ not-false _ (ap (λ b. not b) c.if-not-good_group.false)) _ (c.group_size-i.ensures ∙ ap size_of c.word_at.ensures), h.1)

pub returns : goal.returns
unfolding check_of
returns c = simp (le-ltb _ _ c.loop-i.invariant.1, laws.check_end _ _ c.loop-i.invariant.0 c.loop-i-test.false)
