use Rattle.load.proofs.Result.{loaded_by}
use Rattle.load.proofs.Loaded.load.Goals as goal

pub invariant_of-self : goal.invariant_of-self
invariant_of-self c = loaded_by _ _ _ _ c.load_into-self-inside.ensures
