use Rattle.tables.proofs.Laws.{facts_made}
use Rattle.facts.proofs.facts_of.Goals as goal

pub returns : goal.returns
returns c = facts_made c.args.w _ _ _ _ c.type_by.ensures c.state_by.ensures c.speed_by.ensures c.max_hop_by.ensures
