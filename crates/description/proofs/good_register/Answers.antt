use borrow.Author.Tests.{le-leb, lt-leb, not-true, not-false}
use mathlib.Core.Path.{sym, ap}
use native.Mathlib.Omega.{arith}
use Rattle.layout.proofs.Laws as groups
use Rattle.description.specs.Rules.{good_register, whole}
use mathlib.Core.Bool.{not}
use Rattle.description.proofs.good_register.Goals as goal

pub returns-then-not-good_head : goal.returns-then-not-good_head
unfolding good_register whole
returns-then-not-good_head c = simp (sym c.word_at-w.ensures, sym c.word_at.ensures, sym c.word_at-2.ensures, sym c.good_head.ensures, not-true c.good_head.result (ap (λ b. not b) c.if-not-good_head.true))

pub overflow_add-i-3 : goal.overflow_add-i-3
overflow_add-i-3 c = omega (arith, groups.size_small _ _ c.group_size.ensures)

pub returns-then-t-i : goal.returns-then-t-i
unfolding good_register whole
returns-then-t-i c = simp (sym c.word_at-w.ensures, sym c.word_at.ensures, sym c.word_at-2.ensures, sym c.good_head.ensures, not-false c.good_head.result (ap (λ b. not b) c.if-not-good_head.false), sym c.group_size.ensures, lt-leb _ _ c.if-t-i.true)

pub returns : goal.returns
unfolding good_register whole
returns c = simp (sym c.word_at-w.ensures, sym c.word_at.ensures, sym c.word_at-2.ensures, sym c.good_head.ensures, not-false c.good_head.result (ap (λ b. not b) c.if-not-good_head.false), sym c.group_size.ensures, le-leb _ _ c.if-t-i.false, sym c.good_name.ensures)
