use Prim.Native.Nat.{◌%◌}
use mathlib.Core.Path.{sym, ap}
use mathlib.Core.Bool.{Bool, ◌&&◌}
use lib.Dec.{eqb}
use borrow.Author.Tests.{lt-leb, le-leb}
use Rattle.hopids.proofs.looked_at.Goals as goal

pub returns-then-offset-least : goal.returns-then-offset-least
returns-then-offset-least c = let a = c.args in sym (ap (λ (b : Bool). b && eqb (a.offset % 2) 0) (lt-leb _ _ c.if-offset-least.true))

pub returns : goal.returns
returns c = let a = c.args in sym (ap (λ (b : Bool). b && eqb (a.offset % 2) 0) (le-leb _ _ c.if-offset-least.false))
