use borrow.Author.Tests.{eq-eqb, ne_eqb}
use Rattle.survey.specs.Rules.{good_register}
use Rattle.rules.proofs.good_register.Goals as goal

pub returns-then-w-ne0 : goal.returns-then-w-ne0
unfolding good_register
returns-then-w-ne0 c = simp (ne_eqb _ _ c.if-w-ne0.true)

pub returns : goal.returns
unfolding good_register
returns c = simp (eq-eqb _ _ c.if-w-ne0.false)
