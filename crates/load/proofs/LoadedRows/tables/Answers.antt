use mathlib.Core.Path.{ap, ◌∙◌}
use Rattle.tables.specs.Tables.{rows_of}
use Rattle.load.specs.Answers.{held}
use Rattle.load.proofs.LoadedRows.tables.Goals as goal

pub returns-clause-rows : goal.returns-clause-rows
unfolding rows_of held
returns-clause-rows c = let t = c.self.inside in ap (λ n. held t.entries t.adapters t.devices n) c.counts-counts.ensures ∙ c.self.view_is
