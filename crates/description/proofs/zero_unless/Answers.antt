use borrow.Author.Tests.{eq-eqb, ne_eqb}
use Rattle.description.specs.Rules.{zero_unless}
use Rattle.description.proofs.zero_unless.Goals as goal

pub returns-then-bit-eq1 : goal.returns-then-bit-eq1
unfolding zero_unless
returns-then-bit-eq1 c = simp (eq-eqb _ _ c.if-bit-eq1.true)

pub returns : goal.returns
unfolding zero_unless
returns c = simp (ne_eqb _ _ c.if-bit-eq1.false)
