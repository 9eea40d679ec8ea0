use mathlib.Core.Path.{refl, sym, ◌∙◌}
use Rattle.metadata.proofs.Calls as calls
use native.Mathlib.Omega.{arith}
use Rattle.metadata.proofs.Places as places
use Rattle.metadata.proofs.name.Goals as goal

pub slice_bounds-result-end : goal.slice_bounds-result-end
slice_bounds-result-end c = refl

pub returns-in_default : goal.returns-in_default
returns-in_default c = sym (calls.name_refused _ _ c.check.ensures _ _ c.in_default.is)

pub slice_bounds-result-end-then-not-stands_at : goal.slice_bounds-result-end-then-not-stands_at
slice_bounds-result-end-then-not-stands_at c = refl

pub returns-then-not-stands_at : goal.returns-then-not-stands_at
returns-then-not-stands_at c = sym (calls.name_well _ _ c.check.ensures _ c.in-Ok.is ∙ calls.words_none _ _ _ c.stands_at.ensures c.if-not-stands_at.true)

pub overflow_add-start : goal.overflow_add-start
overflow_add-start c = omega (arith, places.name_whole _ _ (calls.check_well _ _ c.check.ensures c.in-Ok.is) _ c.stands_at.ensures c.if-not-stands_at.false _ c.word_at-w.ensures _ refl)

pub overflow_add-end : goal.overflow_add-end
overflow_add-end c = omega (arith, places.name_whole _ _ (calls.check_well _ _ c.check.ensures c.in-Ok.is) _ c.stands_at.ensures c.if-not-stands_at.false _ c.word_at-w.ensures _ c.name_words.ensures)

pub offset_bounds-descriptions-start : goal.offset_bounds-descriptions-start
offset_bounds-descriptions-start c = omega (arith, places.name_whole _ _ (calls.check_well _ _ c.check.ensures c.in-Ok.is) _ c.stands_at.ensures c.if-not-stands_at.false _ c.word_at-w.ensures _ c.name_words.ensures)

pub slice_bounds-result-start : goal.slice_bounds-result-start
slice_bounds-result-start c = omega (arith, places.name_whole _ _ (calls.check_well _ _ c.check.ensures c.in-Ok.is) _ c.stands_at.ensures c.if-not-stands_at.false _ c.word_at-w.ensures _ c.name_words.ensures)

pub slice_bounds-result-end-2 : goal.slice_bounds-result-end-2
slice_bounds-result-end-2 c = omega (arith, places.name_whole _ _ (calls.check_well _ _ c.check.ensures c.in-Ok.is) _ c.stands_at.ensures c.if-not-stands_at.false _ c.word_at-w.ensures _ c.name_words.ensures)

pub returns : goal.returns
returns c = let a = c.args in
    calls.part_is a.descriptions.now a.place c.name_words.result _ (calls.name_well _ _ c.check.ensures _ c.in-Ok.is ∙ calls.words_some _ _ _ c.stands_at.ensures c.if-not-stands_at.false _ c.word_at-w.ensures _ c.name_words.ensures)
