use borrow.Author.Tests.{eq-eqb, ne_eqb}
use Rattle.survey.specs.Words.{is_long, size_of}
use Rattle.rules.proofs.group_size.Goals as goal

pub returns-then-kind-eq3 : goal.returns-then-kind-eq3
unfolding size_of is_long
returns-then-kind-eq3 c = simp (eq-eqb _ _ c.if-kind-eq3.true)

pub returns-then-kind-eq5 : goal.returns-then-kind-eq5
unfolding size_of is_long
returns-then-kind-eq5 c = simp (ne_eqb _ _ c.if-kind-eq3.false, eq-eqb _ _ c.if-kind-eq5.true)

pub returns : goal.returns
unfolding size_of is_long
returns c = simp (ne_eqb _ _ c.if-kind-eq3.false, ne_eqb _ _ c.if-kind-eq5.false)
