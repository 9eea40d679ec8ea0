-- Document 01, what the program prints of result words, of a number of tunnels and of a refusal. Assumes nothing.
use Rattle.std.specs.Prelude.{ℕ, ◌+◌, ◌≡◌, Bool, true, false, cond, ◌||◌, List, [], ◌∷◌, ◌++◌, ltb, leb, length, get_or, drop, Result}
use Rattle.refusal.specs.Outcome.{Outcome, refused, value}
use Rattle.util.specs.Text.{bytes_of}
use Rattle.print.specs.Print.{decimal, most, capped}
use Rattle.printing.specs.Lines.{is_tunnel, is_hop, line_of}
use Rattle.refusal.specs.Refusal.{outcome}
use Rattle.refusal.specs.declared.Refusal.{Refusal}

-- result words from each head on: a hop takes two words, a tunnel and a path one
unfoldable pub parts_of : List ℕ → List (List ℕ)
parts_of [] = []
parts_of (w ∷ []) = (w ∷ []) ∷ []
parts_of (w ∷ x ∷ ws) = (w ∷ x ∷ ws) ∷ cond (is_hop w) (parts_of ws) (parts_of (x ∷ ws))

unfoldable pub lines_by : List (List ℕ) → List ℕ
lines_by [] = []
lines_by (p ∷ ps) = line_of p ++ lines_by ps

-- the lines of result words
unfoldable pub lines_of : List ℕ → List ℕ
lines_of ws = lines_by (parts_of ws)

unfoldable pub one : Bool → ℕ
one true = 1
one false = 0

unfoldable pub tunnels_by : List (List ℕ) → ℕ
tunnels_by [] = 0
tunnels_by (p ∷ ps) = one (is_tunnel (get_or p 0 0)) + tunnels_by ps

-- how many tunnels result words have
unfoldable pub tunnels_in : List ℕ → ℕ
tunnels_in ws = tunnels_by (parts_of ws)

-- the first line, with the number of tunnels
unfoldable pub total_line : ℕ → List ℕ
total_line n = bytes_of "tunnels " ++ decimal n ++ bytes_of "\n"

-- all that is printed where something is refused
unfoldable pub refused_line : ℕ → List ℕ
refused_line n = bytes_of "refused " ++ decimal n ++ bytes_of "\n"

-- 2 where there is too little room for a text, with the bytes needed; one of 2^64 - 1 bytes or more, which no buffer holds, is 2 with that number
unfoldable pub in_room : ℕ → List ℕ → Outcome ℕ
in_room room s = cond (leb most (length s) || ltb room (length s)) (refused 2 (capped (length s) ∷ [])) (value (length s))

-- the text and then what stood there; after a refusal the output is as it was
unfoldable pub output_by : List ℕ → Outcome ℕ → List ℕ → List ℕ
output_by s (refused n vs) old = old
output_by s (value n) old = s ++ drop (length s) old

-- the whole outcome of a call that prints a text
pub record PrintDone (s output : List ℕ) (r : Result ℕ Refusal) (output' : List ℕ) : Type 0 where
  pub answers : outcome r ≡ in_room (length output) s
  pub writes : output' ≡ output_by s (outcome r) output
