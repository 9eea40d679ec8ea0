use mathlib.Core.Path.{sym}
use Rattle.layout.specs.Layout.{byte_at}
use Rattle.layout.proofs.Laws.{byte_past}
use Rattle.layout.proofs.byte_at.Goals as goal

pub returns-then-t-p : goal.returns-then-t-p
returns-then-t-p c = sym (byte_past _ _ _ c.if-t-p.true)

pub returns : goal.returns
unfolding byte_at
returns c = simp (c.byte_of.ensures, c.word_at.ensures)
