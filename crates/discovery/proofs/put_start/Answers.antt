use native.Mathlib.Omega.{arith}
use Rattle.discovery.proofs.Writing.{path_fits, path_put}
use Rattle.discovery.proofs.put_start.Goals as goal

pub overflow_add-result : goal.overflow_add-result
overflow_add-result c = omega (arith, path_fits _ c.args.output.now _ _ _ c.args.at _ c.requires c.put_walk-words.ensures, c.well_formed)

pub returns : goal.returns
returns c = path_put _ _ _ _ _ _ _ c.requires c.put_walk-words.ensures
