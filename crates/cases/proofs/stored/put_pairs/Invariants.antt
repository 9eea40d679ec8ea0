use Rattle.std.proofs.Common.{◌≡◌, ◌++◌, ◌*◌, take, drop}
use Rattle.cases.specs.Stored.{low_pairs}
use Rattle.cases.proofs.stored.put_pairs.Given as goal

abbrev pub invariant-loop-i : goal.invariant-loop-i
invariant-loop-i l = low_pairs l.hex ≡ take l.i l.out ++ low_pairs (drop (2 * l.i) l.hex)
