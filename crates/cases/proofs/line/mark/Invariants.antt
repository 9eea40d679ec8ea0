use Rattle.std.proofs.Common.{◌≡◌, ◌%◌, ◌+◌, take}
use Rattle.cases.specs.Cases.{each}
use Rattle.cases.proofs.line.mark.Given as goal

abbrev pub invariant-loop-i : goal.invariant-loop-i
invariant-loop-i l = take l.i l.words ≡ each (λ k. (l.first + k % 65536) % 4294967296) l.i
