use Prim.Native.Nat.{◌+◌}
use mathlib.Core.Path.{sym, ap}
use mathlib.Core.Bool.{cond}
use borrow.Author.Tests.{lt-ltb, le-ltb}
use Rattle.discovery.specs.Work.{rings_end}
use Rattle.discovery.proofs.rings_end.Goals as goal

-- `discovery::rings_end` meets its contract.
pub returns-then-most-gt65535 : goal.returns-then-most-gt65535
unfolding rings_end
returns-then-most-gt65535 c = sym (ap (λ b. cond b 65536 (c.args.most + 1)) (lt-ltb _ _ c.if-most-gt65535.true))

pub returns : goal.returns
unfolding rings_end
returns c = sym (ap (λ b. cond b 65536 (c.args.most + 1)) (le-ltb _ _ c.if-most-gt65535.false))
