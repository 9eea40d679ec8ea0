use mathlib.Core.Bool.{false≢true}
use native.Mathlib.Omega.{arith}
use borrow.Author.Tests.{eqb-true}
use Rattle.columns.proofs.InColumns.{ends_feed, ends_end}
use Rattle.columns.proofs.ends.Goals as goal

-- `columns::ends` meets its contract.
pub returns-then-s-n : goal.returns-then-s-n
returns-then-s-n c = λ e. absurd (false≢true e)

pub returns-then-last-i : goal.returns-then-last-i
returns-then-last-i c = λ e. absurd (false≢true e)

pub returns-then-last-i-2 : goal.returns-then-last-i-2
returns-then-last-i-2 c = λ e. ends_end c.args.s.now c.args.i c.args.n (omega arith)

pub returns : goal.returns
returns c = λ e. ends_feed c.args.s.now c.args.i c.args.n (omega arith) (eqb-true _ _ e)
