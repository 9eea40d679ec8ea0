use Rattle.util.specs.Text.{bytes_of}
use Rattle.printed.specs.Printed.{total_line}
use Rattle.summary.proofs.total.Goals as goal

pub returns : goal.returns
unfolding bytes_of total_line
returns c = c.numbered.ensures
