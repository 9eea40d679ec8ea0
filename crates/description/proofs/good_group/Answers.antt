use borrow.Author.Tests.{le-leb, lt-leb, eq-eqb, ne_eqb}
use mathlib.Core.Path.{sym}
use Rattle.description.specs.Rules.{good_group}
use Rattle.description.proofs.good_group.Goals as goal

pub returns-then-kind-eq1 : goal.returns-then-kind-eq1
unfolding good_group
returns-then-kind-eq1 c = simp (sym c.word_at.ensures, eq-eqb _ _ c.if-kind-eq1.true, sym c.good_register.ensures)

pub returns-then-kind-ne2 : goal.returns-then-kind-ne2
unfolding good_group
returns-then-kind-ne2 c = simp (sym c.word_at.ensures, ne_eqb _ _ c.if-kind-eq1.false, ne_eqb _ _ c.if-kind-ne2.true)

pub returns-then-i-lt1 : goal.returns-then-i-lt1
unfolding good_group
returns-then-i-lt1 c = simp (sym c.word_at.ensures, ne_eqb _ _ c.if-kind-eq1.false, eq-eqb _ _ c.if-kind-ne2.false, lt-leb _ _ c.if-i-lt1.true)

pub returns : goal.returns
unfolding good_group
returns c = simp (sym c.word_at.ensures, ne_eqb _ _ c.if-kind-eq1.false, eq-eqb _ _ c.if-kind-ne2.false, le-leb _ _ c.if-i-lt1.false, sym c.good_field.ensures)
