use mathlib.Core.Path.{ap}
use native.Mathlib.Omega.{arith}
use lib.ListN.{get_or}
use mathlib.Core.Bool.{false}
use Rattle.discovery.proofs.is_idle.Goals as goal

pub bounds-idle-mark_of : goal.bounds-idle-mark_of
bounds-idle-mark_of c = omega (arith, c.mark_of.ensures.1)

pub returns : goal.returns
returns c = ap (λ i. get_or c.args.idle.now i false) c.mark_of.ensures.0
