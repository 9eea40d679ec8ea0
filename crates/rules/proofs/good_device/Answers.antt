use borrow.Author.Tests.{eq-eqb, ne_eqb, lt-leb, le-leb}
use Rattle.survey.specs.Rules.{good_device}
use Rattle.rules.proofs.good_device.Goals as goal

pub returns-then-kind-gt5 : goal.returns-then-kind-gt5
unfolding good_device
returns-then-kind-gt5 c = simp (lt-leb _ _ c.if-kind-gt5.true)

pub returns-then-w-ne0 : goal.returns-then-w-ne0
unfolding good_device
returns-then-w-ne0 c = simp (le-leb _ _ c.if-kind-gt5.false, ne_eqb _ _ c.if-w-ne0.true)

pub returns-then-w-eq0 : goal.returns-then-w-eq0
unfolding good_device
returns-then-w-eq0 c = simp (le-leb _ _ c.if-kind-gt5.false, eq-eqb _ _ c.if-w-ne0.false, eq-eqb _ _ c.if-w-eq0.true)

pub returns : goal.returns
unfolding good_device
returns c = simp (le-leb _ _ c.if-kind-gt5.false, eq-eqb _ _ c.if-w-ne0.false, ne_eqb _ _ c.if-w-eq0.false)
