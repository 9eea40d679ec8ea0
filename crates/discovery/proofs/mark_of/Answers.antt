use mathlib.Core.Path.{sym, ap}
use mathlib.Core.Bool.{cond}
use native.Mathlib.Omega.{arith}
use borrow.Author.Tests.{lt-ltb, le-ltb}
use Rattle.discovery.specs.Work.{mark_of}
use Rattle.discovery.proofs.mark_of.Goals as goal

-- `discovery::mark_of` meets its contract.
pub returns-then-ring-gt2047 : goal.returns-then-ring-gt2047
unfolding mark_of
returns-then-ring-gt2047 c = (sym (ap (λ b. cond b 2047 c.args.ring) (lt-ltb 2047 c.args.ring c.if-ring-gt2047.true)), omega arith)

pub returns : goal.returns
unfolding mark_of
returns c = (sym (ap (λ b. cond b 2047 c.args.ring) (le-ltb 2047 c.args.ring c.if-ring-gt2047.false)), c.if-ring-gt2047.false)
