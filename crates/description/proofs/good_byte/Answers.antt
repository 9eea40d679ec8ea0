use borrow.Author.Tests.{lt-ltb, le-ltb, le-leb, lt-leb}
use Rattle.description.specs.Rules.{good_byte}
use Rattle.description.proofs.good_byte.Goals as goal

pub returns-then-n-j : goal.returns-then-n-j
unfolding good_byte
returns-then-n-j c = simp (le-ltb _ _ c.if-n-j.true)

pub returns-then-b-lt32 : goal.returns-then-b-lt32
unfolding good_byte
returns-then-b-lt32 c = simp (lt-ltb _ _ c.if-n-j.false, lt-leb _ _ c.if-b-lt32.true)

pub returns : goal.returns
unfolding good_byte
returns c = simp (lt-ltb _ _ c.if-n-j.false, le-leb _ _ c.if-b-lt32.false)
