use mathlib.Core.Path.{refl}
use Rattle.tunnel.specs.Work.{one_path}
use Rattle.tunnel.proofs.one_path.Goals as goal

pub returns : goal.returns
unfolding one_path
returns c = refl
