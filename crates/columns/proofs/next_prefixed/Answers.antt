use mathlib.Core.Bool.{false≢true}
use Rattle.columns.proofs.next_prefixed.Goals as goal

pub returns-then-s-i-ne32 : goal.returns-then-s-i-ne32
returns-then-s-i-ne32 c = λ e. absurd (false≢true e)

pub returns : goal.returns
returns c = λ e. (c.if-s-i-ne32.false, c.prefixed.ensures e)
