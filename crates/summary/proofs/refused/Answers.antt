use Rattle.util.specs.Text.{bytes_of}
use Rattle.printed.specs.Printed.{refused_line}
use Rattle.summary.proofs.refused.Goals as goal

pub returns : goal.returns
unfolding bytes_of refused_line
returns c = c.numbered.ensures
