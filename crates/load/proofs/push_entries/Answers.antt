use Rattle.load.proofs.Entries.{no_least, least_fits, by_least}
use Rattle.load.proofs.push_entries.Goals as goal

pub returns-in_default-clause-rows : goal.returns-in_default-clause-rows
returns-in_default-clause-rows c = no_least _ _ _ _ _ _ _ c.min_hop.ensures c.in_default.is

pub push_from-requires : goal.push_from-requires
push_from-requires c = (c.requires.0, c.requires.1, least_fits c.args.kind _ c.min_hop.ensures _ c.in-Some.is)

pub returns-clause-rows : goal.returns-clause-rows
returns-clause-rows c = by_least _ _ _ _ _ _ _ c.min_hop.ensures _ c.in-Some.is _ c.push_from.ensures.rows
