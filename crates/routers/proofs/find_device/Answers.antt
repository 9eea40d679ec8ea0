use Rattle.std.proofs.Common.{ap, ◌∙◌, arith}
use Rattle.std.specs.Prelude.{◌+◌, ◌≡◌}
use Rattle.tables.proofs.Laws.{device_there}
use Rattle.tables.specs.Found.{device_found}
use Rattle.routers.proofs.Laws.{lent_at}
use Rattle.routers.proofs.find_device.Goals as goal

pub returns : goal.returns
returns c = let p = c.args.place in let ds = c.args.tables.now.devices.now in
    ap (device_found p) (c.copied.ensures ∙ lent_at ds p _ c.get.ensures.lookup) ∙ device_there 0 p ds p (let z : p ≡ 0 + p = omega arith in z)
