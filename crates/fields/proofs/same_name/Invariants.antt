use mathlib.Core.Path.{◌≡◌}
use lib.ListN.{length}
use Rattle.fields.proofs.Names as names
use Rattle.fields.proofs.same_name.Given as goal

abbrev pub invariant-loop-j : goal.invariant-loop-j
invariant-loop-j l = (length l.name ≡ l.n) × names.Left l.t l.p l.n l.name l.j
