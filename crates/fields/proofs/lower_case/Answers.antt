use borrow.Author.Tests.{le-leb, lt-leb}
use Rattle.fields.specs.Names.{lower}
use Rattle.fields.proofs.lower_case.Goals as goal

pub returns-then-b-lt65 : goal.returns-then-b-lt65
unfolding lower
returns-then-b-lt65 c = simp (lt-leb _ _ c.if-b-lt65.true)

pub returns-then-b-gt90 : goal.returns-then-b-gt90
unfolding lower
returns-then-b-gt90 c = simp (le-leb _ _ c.if-b-lt65.false, lt-leb _ _ c.if-b-gt90.true)

pub returns : goal.returns
unfolding lower
returns c = simp (le-leb _ _ c.if-b-lt65.false, le-leb _ _ c.if-b-gt90.false)
