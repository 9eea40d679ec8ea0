use Rattle.room.specs.Records.{with_record}
use Rattle.room.proofs.line_records.Goals as goal

pub returns-in_default : goal.returns-in_default
unfolding with_record
returns-in_default c = simp c.in_default.is

pub returns : goal.returns
unfolding with_record
returns c = simp c.in-Ok.is
