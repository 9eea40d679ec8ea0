use Prim.Native.Nat.{◌≤◌, ◌-◌, ◌+◌, ◌*◌}
use mathlib.Core.Path.{◌≡◌}
use lib.ListN.{length, drop}
use Rattle.grammar.specs.Grammar.{items_of, check_from}
use Rattle.grammar.specs.declared.Under.TheVariants as under
use Rattle.grammar.proofs.check_lines.Given as goal

abbrev pub invariant-loop-at : goal.invariant-loop-at
invariant-loop-at l = (l.at ≤ length l.text + 1) × (l.made ≤ 4 * l.at) × (check_from l.made l.u (items_of (drop l.at l.text)) ≡ check_from 0 under.Nothing (items_of l.text))

abbrev pub decreases-loop-at : goal.decreases-loop-at
decreases-loop-at l = length l.text - l.at
