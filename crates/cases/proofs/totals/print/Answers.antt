use Rattle.util.specs.Text.{bytes_of}
use Rattle.cases.specs.Cases.{totals_line}
use Rattle.cases.proofs.totals.print.Goals as goal

pub returns : goal.returns
unfolding totals_line bytes_of
returns g c = c.write.ensures.bytes
