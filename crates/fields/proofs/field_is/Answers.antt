use mathlib.Core.Path.{sym, ◌∙◌}
use Rattle.fields.proofs.Names as names
use Rattle.fields.proofs.field_is.Goals as goal

pub returns-then-same_name : goal.returns-then-same_name
returns-then-same_name c = sym (names.field_by_name _ _ _ _ c.word_at-w.ensures (sym c.same_name.ensures ∙ c.if-same_name.true))

pub returns-then-s-lt1 : goal.returns-then-s-lt1
returns-then-s-lt1 c = sym (names.field_no_short _ _ _ _ c.word_at-w.ensures (sym c.same_name.ensures ∙ c.if-same_name.false) c.if-s-lt1.true)

pub returns : goal.returns
returns c = c.same_name-2.ensures ∙ sym (names.field_by_short _ _ _ _ c.word_at-w.ensures (sym c.same_name.ensures ∙ c.if-same_name.false) c.if-s-lt1.false _ c.name_words.ensures)
