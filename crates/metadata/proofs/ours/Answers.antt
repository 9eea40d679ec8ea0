use Rattle.metadata.proofs.OwnTable.{ours_read}
use Rattle.metadata.proofs.ours.Goals as goal

pub returns : goal.returns
returns c = ours_read
