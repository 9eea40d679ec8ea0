use borrow.Author.Tests.{lt-ltb, le-ltb, eq-eqb, ne_eqb}
use Rattle.naming.specs.Naming.{kind_fits}
use Rattle.layout.specs.Description.{had}
use Rattle.naming.proofs.kind_fits.Goals as goal

pub returns-then-list-ne1 : goal.returns-then-list-ne1
unfolding kind_fits had
returns-then-list-ne1 c = simp (ne_eqb _ _ c.if-list-ne1.true)

pub returns-then-space : goal.returns-then-space
unfolding kind_fits had
returns-then-space c = simp (eq-eqb _ _ c.if-list-ne1.false, eq-eqb _ _ c.if-space.true)

pub returns-then-kind-ge12 : goal.returns-then-kind-ge12
unfolding kind_fits had
returns-then-kind-ge12 c = simp (eq-eqb _ _ c.if-list-ne1.false, ne_eqb _ _ c.if-space.false, le-ltb _ _ c.if-kind-ge12.true)

pub returns : goal.returns
unfolding kind_fits had
returns c = simp (eq-eqb _ _ c.if-list-ne1.false, ne_eqb _ _ c.if-space.false, lt-ltb _ _ c.if-kind-ge12.false)
