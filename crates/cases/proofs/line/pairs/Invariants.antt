use Rattle.cases.proofs.Laws.{Pairs}
use Rattle.cases.proofs.line.pairs.Given as goal

abbrev pub invariant-loop-i : goal.invariant-loop-i
invariant-loop-i l = Pairs l.hex l.initial.out l.out l.i
