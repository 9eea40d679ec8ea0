use Rattle.discovery.proofs.plan_ring.Goals as goal

pub returns : goal.returns
returns c = c.one_dma.ensures.plans c.received_by-received.ensures
