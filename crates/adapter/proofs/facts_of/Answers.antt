use Rattle.adapter.proofs.Laws as laws
use Rattle.adapter.specs.Adapter.{adapter_site, max_hop}
use Rattle.state.specs.State.{of_kind}
use Rattle.adapter.proofs.facts_of.Goals as goal

pub returns : goal.returns
unfolding max_hop of_kind
returns c = λ p. let s = adapter_site p c.args.number in laws.facts_row_lem _ _ _ _ _ _ _ _ _ _ _ c.is_lane0-lane0.ensures c.is_lane1-lane1.ensures (c.link_speed-speed.ensures s) (c.max_hop-max_hop.ensures s)
