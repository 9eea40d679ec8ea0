use mathlib.Core.Path.{sym}
use Rattle.named.specs.Named.{found_named}
use Rattle.named.proofs.Laws as laws
use Rattle.named.proofs.name_group.Goals as goal

pub returns-then-q-o : goal.returns-then-q-o
unfolding found_named
returns-then-q-o c = sym (c.requires.below _ c.if-q-o.true)

pub returns-then-o-q : goal.returns-then-o-q
unfolding found_named
returns-then-o-q c = sym (c.requires.above _ c.if-o-q.true)

pub returns-in_default : goal.returns-in_default
returns-in_default c = laws.group_none _ _ _ _ c.find_group.ensures c.in_default.is

pub returns-then-not-name_is : goal.returns-then-not-name_is
returns-then-not-name_is c = laws.group_other _ _ _ _ c.find_group.ensures _ c.in-Some.is _ c.name_is.ensures c.if-not-name_is.true

pub returns : goal.returns
returns c = laws.group_at_lem _ _ _ _ c.find_group.ensures _ c.in-Some.is _ c.name_is.ensures c.if-not-name_is.false
