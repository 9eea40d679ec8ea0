use Rattle.naming.proofs.Naming.{cap_equal}
use borrow.Author.Tests.{eq-eqb, ne_eqb}
use mathlib.Core.Path.{sym}
use Rattle.naming.specs.Naming.{is, is_none, cap_fits}
use Rattle.layout.specs.Description.{had}
use Rattle.naming.proofs.cap_fits.Goals as goal

pub returns-then-w-eq1 : goal.returns-then-w-eq1
unfolding cap_fits had is is_none
returns-then-w-eq1 c = simp (eq-eqb _ _ c.if-cap-eq0.true, eq-eqb _ _ c.if-w-eq1.true)

pub returns-then-w-eq1-2 : goal.returns-then-w-eq1-2
unfolding cap_fits had is is_none
returns-then-w-eq1-2 c = simp (eq-eqb _ _ c.if-cap-eq0.true, ne_eqb _ _ c.if-w-eq1.false, eq-eqb _ _ c.if-w-eq1-2.true)

pub returns-then-cap-eq0 : goal.returns-then-cap-eq0
unfolding cap_fits had is is_none
returns-then-cap-eq0 c = simp (eq-eqb _ _ c.if-cap-eq0.true, ne_eqb _ _ c.if-w-eq1.false, ne_eqb _ _ c.if-w-eq1-2.false)

pub returns-then-w-ne1 : goal.returns-then-w-ne1
unfolding cap_fits had is is_none
returns-then-w-ne1 c = simp (ne_eqb _ _ c.if-cap-eq0.false, ne_eqb _ _ c.if-w-ne1.true)

pub returns : goal.returns
returns c = sym (cap_equal _ _ _ _ c.if-cap-eq0.false c.if-w-ne1.false)
