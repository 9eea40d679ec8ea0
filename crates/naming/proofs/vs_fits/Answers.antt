use borrow.Author.Tests.{eq-eqb, ne_eqb}
use Rattle.naming.specs.Naming.{is, vs_fits}
use Rattle.layout.specs.Description.{had}
use Rattle.naming.proofs.vs_fits.Goals as goal

pub returns-then-vs-eq0 : goal.returns-then-vs-eq0
unfolding vs_fits had is
returns-then-vs-eq0 c = simp (eq-eqb _ _ c.if-vs-eq0.true)

pub returns-then-w-ne1 : goal.returns-then-w-ne1
unfolding vs_fits had is
returns-then-w-ne1 c = simp (ne_eqb _ _ c.if-vs-eq0.false, ne_eqb _ _ c.if-w-ne1.true)

pub returns : goal.returns
unfolding vs_fits had is
returns c = simp (ne_eqb _ _ c.if-vs-eq0.false, eq-eqb _ _ c.if-w-ne1.false)
