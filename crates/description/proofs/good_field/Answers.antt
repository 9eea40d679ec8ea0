use borrow.Author.Tests.{le-leb, lt-leb, not-true, not-false}
use mathlib.Core.Path.{sym, ap}
use native.Mathlib.Omega.{arith}
use Rattle.layout.proofs.Laws as groups
use Rattle.description.specs.Rules.{good_field, whole}
use mathlib.Core.Bool.{not}
use Rattle.description.proofs.good_field.Goals as goal

pub returns-then-not-good_range : goal.returns-then-not-good_range
unfolding good_field whole
returns-then-not-good_range c = simp (sym c.word_at-w.ensures, sym c.good_range.ensures, not-true c.good_range.result (ap (λ b. not b) c.if-not-good_range.true))

pub overflow_add-end : goal.overflow_add-end
overflow_add-end c = omega (arith, groups.size_small _ _ c.group_size.ensures)

pub returns-then-t-end : goal.returns-then-t-end
unfolding good_field whole
returns-then-t-end c = simp (sym c.word_at-w.ensures, sym c.good_range.ensures, not-false c.good_range.result (ap (λ b. not b) c.if-not-good_range.false), sym c.group_size.ensures, lt-leb _ _ c.if-t-end.true)

pub returns-then-not-good_name : goal.returns-then-not-good_name
unfolding good_field whole
returns-then-not-good_name c = simp (sym c.word_at-w.ensures, sym c.good_range.ensures, not-false c.good_range.result (ap (λ b. not b) c.if-not-good_range.false), sym c.group_size.ensures, le-leb _ _ c.if-t-end.false, sym c.good_name.ensures, not-true c.good_name.result (ap (λ b. not b) c.if-not-good_name.true))

pub returns : goal.returns
unfolding good_field whole
returns c = simp (sym c.word_at-w.ensures, sym c.good_range.ensures, not-false c.good_range.result (ap (λ b. not b) c.if-not-good_range.false), sym c.group_size.ensures, le-leb _ _ c.if-t-end.false, sym c.good_name.ensures, not-false c.good_name.result (ap (λ b. not b) c.if-not-good_name.false), sym c.name_words.ensures, sym c.good_name-2.ensures)
