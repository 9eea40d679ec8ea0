use Rattle.path.proofs.Answering.{walk_no_room, walk_put}
use Rattle.path.proofs.put_walk.Goals as goal

-- `path::put_walk` meets its contract.
pub returns-then-output-lt1 : goal.returns-then-output-lt1
returns-then-output-lt1 c = walk_no_room _ _ _ _ c.if-output-lt1.true

pub returns : goal.returns
returns c = walk_put _ _ _ _ _ _ _ c.path_word.ensures c.put_hops-hops.ensures
