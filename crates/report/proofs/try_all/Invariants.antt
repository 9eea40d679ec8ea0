use Prim.Native.Nat.{◌-◌}
use mathlib.Core.Path.{◌≡◌}
use lib.ListN.{length}
use Rattle.report.proofs.Trying.{Trying}
use Rattle.report.proofs.try_all.Given as goal

abbrev pub invariant-loop-index : goal.invariant-loop-index
invariant-loop-index l = (length l.words ≡ 16384) × Trying l.tables l.total l.index

abbrev pub decreases-loop-index : goal.decreases-loop-index
decreases-loop-index l = length l.tables.adapters.now - l.index
