-- For the contracts of private functions only. No promise to a caller rests on these. Assumes nothing.
use Rattle.std.specs.Prelude.{None, Option, Some, ℕ, List}
use Rattle.grammar.specs.Grammar.{item_of, item_step, item_size}
use Rattle.grammar.specs.declared.Under.{Under}
use Rattle.grammar.specs.declared.Advance.{Advance}

abbrev pub on : Under → ℕ → Option Advance
on u n = Some (record { under = u; words = n })

-- a step with the words of its group
unfoldable pub with_words : ℕ → Option Under → Option Advance
with_words n (Some u) = on u n
with_words n None = None

-- what a line leads to
unfoldable pub advance_of : List ℕ → Under → Option Advance
advance_of l u = with_words (item_size (item_of l)) (item_step (item_of l) u)
