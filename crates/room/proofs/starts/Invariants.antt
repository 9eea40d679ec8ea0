use Prim.Native.Nat.{◌+◌, ◌-◌}
use mathlib.Core.Path.{◌≡◌}
use lib.ListN.{drop}
use Rattle.room.specs.Work.{starts_in}
use Rattle.room.proofs.starts.Given as goal

abbrev pub invariant-loop-i : goal.invariant-loop-i
invariant-loop-i l = l.n + starts_in (drop (l.i - 1) l.s) ≡ starts_in l.s
