use borrow.Author.Tests.{eq-eqb, ne_eqb}
use mathlib.Core.Path.{sym, ap, ◌∙◌}
use native.Mathlib.Omega.{arith}
use Rattle.layout.specs.Layout.{size_of, is_register}
use Rattle.layout.proofs.Laws.{size_small, size_pos}
use Rattle.metadata.proofs.Places as places
use Rattle.metadata.proofs.stands_at.Goals as goal

pub returns-then-t-place : goal.returns-then-t-place
returns-then-t-place c = places.seek_short _ _ c.if-t-place.true

pub loop-i-init : goal.loop-i-init
loop-i-init c = (places.seek_all _ _, omega arith)

pub overflow_add-i : goal.overflow_add-i
overflow_add-i c = omega (arith, size_small _ _ c.group_size-i.ensures)

pub loop-i-smaller : goal.loop-i-smaller
loop-i-smaller c = let e = c.group_size-i.ensures in omega (arith, size_pos c.word_at.result)

pub loop-i-preserved : goal.loop-i-preserved
loop-i-preserved c = let h = c.loop-i.invariant in (places.seek_more _ _ _ h.0 (omega arith) h.1 _ (c.group_size-i.ensures ∙ ap size_of c.word_at.ensures), h.1)

pub returns-then-place-i : goal.returns-then-place-i
returns-then-place-i c = places.seek_past _ _ _ c.loop-i.invariant.0 c.if-place-i.true

pub returns-then-word_at-ne1 : goal.returns-then-word_at-ne1
unfolding is_register
returns-then-word_at-ne1 c = let h = c.loop-i.invariant in places.seek_other _ _ _ h.0 (omega arith) h.1 (simp (sym c.word_at-2.ensures, ne_eqb _ _ c.if-word_at-ne1.true))

pub returns : goal.returns
unfolding is_register
returns c = let h = c.loop-i.invariant in places.seek_here _ _ _ h.0 (omega arith) h.1 (simp (sym c.word_at-2.ensures, eq-eqb _ _ c.if-word_at-ne1.false))
