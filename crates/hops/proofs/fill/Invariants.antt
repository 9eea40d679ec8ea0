use Rattle.std.proofs.Common.{◌≡◌, ◌++◌, drop}
use Rattle.hops.specs.Records.{filled}
use Rattle.hops.proofs.fill.Given as goal

abbrev pub invariant-loop-i : goal.invariant-loop-i
invariant-loop-i l = l.record-items ++ drop l.n l.fn.records ≡ filled l.words l.i l.fn.records
