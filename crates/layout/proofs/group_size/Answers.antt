use borrow.Author.Tests.{eq-eqb, ne_eqb}
use Rattle.layout.specs.Layout.{size_of}
use Rattle.layout.proofs.group_size.Goals as goal

pub returns-then-kind-eq1 : goal.returns-then-kind-eq1
unfolding size_of
returns-then-kind-eq1 c = simp (eq-eqb _ _ c.if-kind-eq1.true, c.name_words.ensures)

pub returns-then-kind-eq2 : goal.returns-then-kind-eq2
unfolding size_of
returns-then-kind-eq2 c = simp (ne_eqb _ _ c.if-kind-eq1.false, eq-eqb _ _ c.if-kind-eq2.true, c.name_words-then-kind-eq2.ensures, c.name_words-then-kind-eq2-2.ensures)

pub returns : goal.returns
unfolding size_of
returns c = simp (ne_eqb _ _ c.if-kind-eq1.false, ne_eqb _ _ c.if-kind-eq2.false)
