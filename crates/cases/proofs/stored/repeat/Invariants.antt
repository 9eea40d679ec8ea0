use Rattle.std.proofs.Common.{◌≡◌, ◌++◌, ◌-◌, length, take}
use Rattle.cases.specs.Stored.{says}
use Rattle.cases.proofs.stored.repeat.Given as goal

-- What was put and what is said from here on is all.
abbrev pub invariant-loop-slot : goal.invariant-loop-slot
invariant-loop-slot l = says l.rest l.rest (length l.out) ≡ take l.slot-index l.out ++ says l.rest l.at (length l.out - l.slot-index)
