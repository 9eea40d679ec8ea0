use Rattle.discovery.proofs.Rings.{drafted_put}
use Rattle.discovery.proofs.put_tallied.Goals as goal

pub returns-then-need-draft : goal.returns-then-need-draft
returns-then-need-draft c = drafted_put _ _ _ _ _ _ c.requires.3 c.if-need-draft.true _ c.copy_from_slice.ensures.after
