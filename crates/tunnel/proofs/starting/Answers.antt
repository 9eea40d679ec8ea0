use mathlib.Core.Path.{refl}
use Rattle.receive.specs.Receive.{at}
use Rattle.tunnel.proofs.starting.Goals as goal

-- `tunnel::starting` meets its contract.
pub returns : goal.returns
unfolding at
returns c = refl
