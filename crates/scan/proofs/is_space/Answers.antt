use Rattle.scan.proofs.Laws.{space_above, space_last}
use Rattle.scan.specs.Scan.{is_space}
use Rattle.scan.proofs.is_space.Goals as goal

pub returns-then-b-gt32 : goal.returns-then-b-gt32
returns-then-b-gt32 c = space_above _ c.if-b-gt32.true

pub returns-then-b-eq9 : goal.returns-then-b-eq9
unfolding is_space
returns-then-b-eq9 c = simp c.if-b-eq9.true

pub returns-then-b-eq10 : goal.returns-then-b-eq10
unfolding is_space
returns-then-b-eq10 c = simp c.if-b-eq10.true

pub returns-then-b-eq12 : goal.returns-then-b-eq12
unfolding is_space
returns-then-b-eq12 c = simp c.if-b-eq12.true

pub returns-then-b-eq13 : goal.returns-then-b-eq13
unfolding is_space
returns-then-b-eq13 c = simp c.if-b-eq13.true

pub returns : goal.returns
returns c = space_last _ c.if-b-eq9.false c.if-b-eq10.false c.if-b-eq12.false c.if-b-eq13.false
