use Rattle.report.proofs.Answering.{in_answer}
use Rattle.report.proofs.answer_at.Goals as goal

pub returns : goal.returns
returns c = rw c.size_of.ensures (in_answer _ _ _ c.requires.1 _ _ c.discover_in-found.ensures)
