use borrow.Author.Tests.{lt-leb, le-leb}
use Rattle.survey.specs.Rules.{good_adapter}
use Rattle.rules.proofs.good_adapter.Goals as goal

pub returns-then-w-lt1 : goal.returns-then-w-lt1
unfolding good_adapter
returns-then-w-lt1 c = simp (lt-leb _ _ c.if-w-lt1.true)

pub returns-then-w-gt2 : goal.returns-then-w-gt2
unfolding good_adapter
returns-then-w-gt2 c = simp (le-leb _ _ c.if-w-lt1.false, lt-leb _ _ c.if-w-gt2.true)

pub returns : goal.returns
unfolding good_adapter
returns c = simp (le-leb _ _ c.if-w-lt1.false, le-leb _ _ c.if-w-gt2.false)
