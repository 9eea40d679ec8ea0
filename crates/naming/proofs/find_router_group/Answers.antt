use Rattle.naming.specs.Naming.{router_naming}
use Rattle.naming.proofs.find_router_group.Goals as goal

pub returns : goal.returns
unfolding router_naming
returns c = c.find_group.ensures
