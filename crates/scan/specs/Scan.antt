-- Document 01, module 3: lines and their tokens; bytes above 127. Assumes nothing.
use Rattle.std.specs.Prelude.{ℕ, suc, ◌+◌, ◌-◌, Bool, cond, not, ◌||◌, List, [], ◌∷◌, eqb, ltb, take, drop, ◌≡◌}
use Rattle.scan.specs.declared.Part.{Part}

-- tab, LF, FF, CR, space
unfoldable pub is_space : ℕ → Bool
is_space b = eqb b 9 || eqb b 10 || eqb b 12 || eqb b 13 || eqb b 32

unfoldable pub is_line_feed : ℕ → Bool
is_line_feed b = eqb b 10

unfoldable pub is_high : ℕ → Bool
is_high b = ltb 127 b

unfoldable pub is_not : (ℕ → Bool) → ℕ → Bool
is_not p b = not (p b)

-- how many bytes stand before the first of p, or all
unfoldable pub before : (ℕ → Bool) → List ℕ → ℕ
before p [] = 0
before p (b ∷ s) = cond (p b) 0 (suc (before p s))

-- the first place from i on that holds a byte of p, or the end; i itself where i is past the end
unfoldable pub place_from : (ℕ → Bool) → List ℕ → ℕ → ℕ
place_from p s i = i + before p (drop i s)

-- t is the part of s from st up to the next separator
abbrev pub TokenFrom : List ℕ → ℕ → Part → Type 0
TokenFrom s st t = (t.end ≡ place_from is_space s st) × (t.text.now ≡ take (t.end - st) (drop st s))

-- t is the first token from i on: from the first byte that is no separator up to the next separator; empty at the end where there is none
abbrev pub TokenAt : List ℕ → ℕ → Part → Type 0
TokenAt s i t = TokenFrom s (place_from (is_not is_space) s i) t

-- a byte before the first of the pieces
unfoldable pub on_first : ℕ → List (List ℕ) → List (List ℕ)
on_first b [] = (b ∷ []) ∷ []
on_first b (t ∷ ts) = (b ∷ t) ∷ ts

-- s cut at each byte of p: one piece more than there are such bytes
unfoldable pub pieces : (ℕ → Bool) → List ℕ → List (List ℕ)
pieces p [] = [] ∷ []
pieces p (b ∷ s) = cond (p b) ([] ∷ pieces p s) (on_first b (pieces p s))

-- the pieces that hold a byte
unfoldable pub filled : List (List ℕ) → List (List ℕ)
filled [] = []
filled ([] ∷ ts) = filled ts
filled ((b ∷ t) ∷ ts) = (b ∷ t) ∷ filled ts

-- tokens stand between separators
unfoldable pub tokens : List ℕ → List (List ℕ)
tokens s = filled (pieces is_space s)

-- all pieces, but a last one that is empty
unfoldable pub ended : List (List ℕ) → List (List ℕ)
ended [] = []
ended (t ∷ []) = filled (t ∷ [])
ended (t ∷ u ∷ ts) = t ∷ ended (u ∷ ts)

-- lines end at LF; the last needs none, and nothing after the last LF is no line
unfoldable pub lines : List ℕ → List (List ℕ)
lines s = ended (pieces is_line_feed s)
