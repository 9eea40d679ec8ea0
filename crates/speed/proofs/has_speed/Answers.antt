use Rattle.state.specs.State.{has_speed}
use Rattle.state.proofs.Laws.{no_speed}
use native.Mathlib.Omega.{arith}
use Rattle.speed.proofs.has_speed.Goals as goal

pub returns-in-Cl0 : goal.returns-in-Cl0
unfolding has_speed
returns-in-Cl0 c = grind (arith, c.in-Cl0.is)

pub returns-in_default : goal.returns-in_default
returns-in_default c = let d = c.in_default in no_speed _ d.not-Cl0 d.not-Cl0sTx d.not-Cl0sRx d.not-Cl1 d.not-Cl2
