use native.Mathlib.Omega.{arith}
use mathlib.Core.Path.{refl}
use Rattle.refusal.specs.Outcome.{bind}
use Rattle.load.specs.Answers.{LoadedBy}
use Rattle.load.proofs.Loaded.none.Goals as goal

pub invariant_of-result : goal.invariant_of-result
unfolding LoadedBy
invariant_of-result c = omega arith

pub returns : goal.returns
unfolding bind
returns c = refl
