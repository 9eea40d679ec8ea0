use Prim.Native.Nat.{◌<◌}
use mathlib.Core.Path.{sym}
use native.Mathlib.Omega.{arith}
use Rattle.route.proofs.Laws.{adapter_deep, adapter_depth, adapter_route, adapter_some, unit_pos}
use Rattle.route.proofs.adapter_beneath.Goals as goal

pub returns-then-d-gt7 : goal.returns-then-d-gt7
returns-then-d-gt7 c = sym (adapter_deep _ _ c.depth-d.ensures _ (omega arith))

pub returns-then-depth-d : goal.returns-then-depth-d
returns-then-depth-d c = sym (adapter_depth _ _ c.depth-d.ensures _ _ c.depth.ensures c.if-depth-d.true)

pub nonzero_rem-device : goal.nonzero_rem-device
nonzero_rem-device c = let h : c.depth-d.result < 8 = omega arith in unit_pos _ _ c.depth-d.ensures _ h c.unit-size.ensures

pub returns-then-route-device : goal.returns-then-route-device
returns-then-route-device c = let h : c.depth-d.result < 8 = omega arith in sym (adapter_route _ _ c.depth-d.ensures _ h c.unit-size.ensures _ _ c.depth.ensures c.if-route-device.true)

pub nonzero_div-result : goal.nonzero_div-result
nonzero_div-result c = let h : c.depth-d.result < 8 = omega arith in unit_pos _ _ c.depth-d.ensures _ h c.unit-size.ensures

pub returns : goal.returns
returns c = let h : c.depth-d.result < 8 = omega arith in sym (adapter_some _ _ c.depth-d.ensures _ h c.unit-size.ensures _ _ c.depth.ensures c.if-depth-d.false c.if-route-device.false)
