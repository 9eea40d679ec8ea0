-- For the contracts of private functions only: where lines that may give a record begin. No promise to a caller rests on these. Assumes nothing.
use Rattle.std.specs.Prelude.{ℕ, ◌+◌, cond, ◌||◌, List, [], ◌∷◌, eqb}
use Rattle.scan.specs.Scan.{is_line_feed}

-- 1 where a line begins between two bytes that is neither empty nor a comment
unfoldable pub line_start : ℕ → ℕ → ℕ
line_start b c = cond (is_line_feed b) (cond (is_line_feed c || eqb c 35) 0 1) 0

-- how many such lines begin after the first byte
unfoldable pub starts_in : List ℕ → ℕ
starts_in [] = 0
starts_in (b ∷ []) = 0
starts_in (b ∷ c ∷ s) = line_start b c + starts_in (c ∷ s)
