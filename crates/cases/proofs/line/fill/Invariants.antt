use Rattle.std.proofs.Common.{◌≡◌, ◌%◌, length, get_or, take}
use Rattle.cases.specs.Cases.{each}
use Rattle.cases.proofs.line.fill.Given as goal

abbrev pub invariant-loop-i : goal.invariant-loop-i
invariant-loop-i l = take l.i l.out ≡ each (λ k. get_or l.words (k % length l.words) 0) l.i
