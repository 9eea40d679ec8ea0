use mathlib.Core.Path.{sym, ◌∙◌}
use Rattle.fields.proofs.Names as names
use Rattle.fields.proofs.name_is.Goals as goal

pub returns-then-w-ne1 : goal.returns-then-w-ne1
returns-then-w-ne1 c = sym (names.other_kind _ _ _ _ c.word_at-w.ensures c.if-w-ne1.true)

pub returns-then-descriptions-place : goal.returns-then-descriptions-place
returns-then-descriptions-place c = sym (names.past_end _ _ _ c.if-descriptions-place.true)

pub returns : goal.returns
returns c = c.same_name.ensures ∙ sym (names.name_here _ _ _ _ c.word_at-w.ensures c.if-w-ne1.false)
