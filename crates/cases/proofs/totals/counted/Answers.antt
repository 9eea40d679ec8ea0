use Rattle.std.proofs.Common.{ap, sym}
use Rattle.cases.specs.Cases.{one_more}
use Rattle.cases.proofs.Counting.{first_here, first_before}
use Rattle.cases.proofs.totals.counted.Goals as goal
use Rattle.cases.proofs.totals.counted.Goals.{then-t-eq0, else-t-eq0}

pub returns-then-agrees : goal.returns-then-agrees
unfolding one_more
returns-then-agrees c = sym (ap (one_more c.args.t) c.if-agrees.true)

pub returns : goal.returns
returns c = elim c.if-t-eq0.branch [
  | then-t-eq0 w ↦ first_here c.args.t c.args.agrees _ c.if-agrees.false w.if-t-eq0.true w.first-is
  | else-t-eq0 w ↦ first_before c.args.t c.args.agrees _ c.if-agrees.false w.if-t-eq0.false w.first-is
]
