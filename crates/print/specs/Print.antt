-- Bytes put into a text from a place on, as far as there is room, and numbers in decimal. Assumes nothing.
use Rattle.std.specs.Prelude.{ℕ, zero, suc, ◌+◌, ◌/◌, ◌%◌, ◌≡◌, cond, List, [], ◌∷◌, ◌++◌, ltb, length}
use Rattle.std.proofs.lemmas.List.Edits.{sets}

-- the digits of a number that has at most k of them
unfoldable pub digits : ℕ → ℕ → List ℕ
digits zero n = []
digits (suc k) n = cond (ltb n 10) ((48 + n) ∷ []) (digits k (n / 10) ++ ((48 + n % 10) ∷ []))

-- a number of 64 bits has at most 20 digits
unfoldable pub decimal : ℕ → List ℕ
decimal n = digits 20 n

-- s at a place of a text; what is past the text's end is left out
unfoldable pub puts : List ℕ → ℕ → List ℕ → List ℕ
puts out at s = sets out at s

abbrev pub most : ℕ
most = 18446744073709551615

-- a place that 64 bits have no room for is the largest that they have
unfoldable pub capped : ℕ → ℕ
capped n = cond (ltb n most) n most

-- s is put at a place, and the next place is answered
pub record Puts (out : List ℕ) (at : ℕ) (s : List ℕ) (r : ℕ) (out' : List ℕ) : Type 0 where
  pub next : r ≡ capped (at + length s)
  pub bytes : out' ≡ puts out at s
