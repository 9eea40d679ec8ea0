use mathlib.Core.Bool.{false≢true}
use borrow.Author.Tests.{eqb-true}
use Rattle.columns.proofs.prefixed.Goals as goal

pub returns-then-s-i-ne48 : goal.returns-then-s-i-ne48
returns-then-s-i-ne48 c = λ e. absurd (false≢true e)

pub returns : goal.returns
returns c = λ e. record { zero_there = c.if-s-i-ne48.false; x_there = eqb-true _ _ e }
