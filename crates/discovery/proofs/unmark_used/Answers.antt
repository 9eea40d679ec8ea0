use Rattle.discovery.proofs.Quiet.{spared_other, spared_both}
use Rattle.discovery.proofs.unmark_used.Goals as goal

pub returns-then-entry-owner : goal.returns-then-entry-owner
returns-then-entry-owner c = spared_other _ _ _ _ c.unmark.ensures c.if-entry-owner.true

pub returns : goal.returns
returns c = spared_both _ _ _ _ _ c.unmark.ensures c.unmark-2.ensures
