use mathlib.Core.Path.{sym}
use native.Mathlib.Omega.{arith}
use Rattle.route.proofs.Laws.{up_none, up_some, depth_le}
use lib.Pow.{pow_pos}
use Prim.Native.Nat.{◌*◌, ◌-◌}
use Rattle.route.proofs.upstream_route.Goals as goal

pub returns-then-d-lt1 : goal.returns-then-d-lt1
returns-then-d-lt1 c = sym (up_none _ _ c.depth-d.ensures c.if-d-lt1.true)

pub unit-requires : goal.unit-requires
unit-requires c = omega (arith, c.depth-d.ensures, depth_le c.args.route)

pub nonzero_rem-result : goal.nonzero_rem-result
nonzero_rem-result c = rw c.unit.ensures (pow_pos (8 * (c.depth-d.result - 1)))

pub returns : goal.returns
returns c = sym (up_some _ _ c.depth-d.ensures _ c.if-d-lt1.false c.unit.ensures)
