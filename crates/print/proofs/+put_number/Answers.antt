use native.Mathlib.Omega.{arith}
use Rattle.print.proofs.Laws.{then, decimal_one, decimal_more}
use Rattle.print.proofs.+put_number.Goals as goal

pub returns-then-n-lt10 : goal.returns-then-n-lt10
returns-then-n-lt10 t c = rw (decimal_one _ c.if-n-lt10.true) c.put_byte.ensures

pub returns : goal.returns
returns t c = rw (decimal_more c.args.n (omega arith) (omega (arith, c.ranges.n))) (then (omega (arith, c.well_formed)) c.put_number-next.ensures c.put_byte-2.ensures)
