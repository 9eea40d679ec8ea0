use Prim.Native.Nat.{◌≤◌, ◌-◌, ◌+◌, ◌*◌}
use mathlib.Core.Path.{◌≡◌}
use lib.ListN.{length, drop}
use Rattle.scan.specs.Scan.{lines}
use Rattle.room.specs.Records.{records_of}
use Rattle.room.proofs.count.Given as goal

abbrev pub invariant-loop-at : goal.invariant-loop-at
invariant-loop-at l = (l.at ≤ length l.s + 1) × (4 * l.n ≤ l.at - 1) × (l.n + length (records_of (lines (drop l.at l.s))) ≡ length (records_of (lines l.s)))

abbrev pub decreases-loop-at : goal.decreases-loop-at
decreases-loop-at l = length l.s - l.at
