use Rattle.cases.proofs.Laws.{Words}
use Rattle.cases.proofs.line.words.Given as goal

abbrev pub invariant-loop-i : goal.invariant-loop-i
invariant-loop-i l = Words l.line l.initial.out l.out l.token.end l.i
