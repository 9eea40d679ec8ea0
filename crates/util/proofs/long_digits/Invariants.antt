use mathlib.Core.Path.{◌≡◌}
use lib.ListN.{drop}
use Prim.Native.Nat.{◌≤◌}
use Rattle.util.specs.Number.{number_of}
use Rattle.util.proofs.Laws.{rest}
use Rattle.util.proofs.long_digits.Given as goal

abbrev pub invariant-loop-b : goal.invariant-loop-b
invariant-loop-b l = (l.v ≤ l.max) × (number_of l.base l.max l.s ≡ rest l.base l.max l.v (drop l.b-index l.s))
