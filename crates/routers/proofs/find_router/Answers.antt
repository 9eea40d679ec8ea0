use Rattle.std.proofs.Common.{◌∙◌}
use Rattle.routers.proofs.Laws.{first}
use Rattle.routers.proofs.find_router.Goals as goal

pub returns : goal.returns
returns c = c.first_router.ensures ∙ first c.args.domain c.args.route c.args.tables.now.devices.now
