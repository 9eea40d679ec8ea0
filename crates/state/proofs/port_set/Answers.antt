use Rattle.util.specs.Text.{bytes_of}
use Rattle.state.proofs.Laws as laws
use Rattle.state.proofs.port_set.Goals as goal

pub returns-then-registers-i : goal.returns-then-registers-i
returns-then-registers-i c = λ s. laws.port_absent _ _ _ _ _ _ s c.by_offset-i.ensures c.if-registers-i.true

pub returns-in_default : goal.returns-in_default
returns-in_default c = λ s. laws.port_nameless _ _ _ _ _ _ s c.by_offset-i.ensures c.if-registers-i.false _ _ c.word_at-ids.ensures c.word_at.ensures _ (rw c.from.ensures at c.find_group.ensures) c.in_default.is

pub returns : goal.returns
unfolding bytes_of
returns c = λ s. laws.port_named _ _ _ _ _ _ s c.by_offset-i.ensures c.if-registers-i.false _ _ c.word_at-ids.ensures c.word_at.ensures _ (rw c.from.ensures at c.find_group.ensures) _ c.in-Some.is _ c.two_flags.ensures
