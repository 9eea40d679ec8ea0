use mathlib.Core.Path.{◌∙◌}
use Rattle.load.proofs.Putting.{counts_told}
use Rattle.load.proofs.LoadedRows.counts.Goals as goal

pub returns : goal.returns
returns c = let s = c.self in c.counts.ensures ∙ counts_told _ _ _ _ s.invariant s.told.0 s.told.1 _ s.view_is
