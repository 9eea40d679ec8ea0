use borrow.Author.Tests.{le-leb, lt-leb, eq-eqb, ne_eqb}
use Rattle.description.specs.Rules.{good_range}
use Rattle.description.proofs.good_range.Goals as goal

pub returns-then-w-ne0 : goal.returns-then-w-ne0
unfolding good_range
returns-then-w-ne0 c = simp (ne_eqb _ _ c.if-w-ne0.true)

pub returns-then-w : goal.returns-then-w
unfolding good_range
returns-then-w c = simp (eq-eqb _ _ c.if-w-ne0.false, lt-leb _ _ c.if-w.true)

pub returns-then-w-lt1 : goal.returns-then-w-lt1
unfolding good_range
returns-then-w-lt1 c = simp (eq-eqb _ _ c.if-w-ne0.false, le-leb _ _ c.if-w.false, lt-leb _ _ c.if-w-lt1.true)

pub returns-then-w-gt64 : goal.returns-then-w-gt64
unfolding good_range
returns-then-w-gt64 c = simp (eq-eqb _ _ c.if-w-ne0.false, le-leb _ _ c.if-w.false, le-leb _ _ c.if-w-lt1.false, lt-leb _ _ c.if-w-gt64.true)

pub returns : goal.returns
unfolding good_range
returns c = simp (eq-eqb _ _ c.if-w-ne0.false, le-leb _ _ c.if-w.false, le-leb _ _ c.if-w-lt1.false, le-leb _ _ c.if-w-gt64.false)
