-- Document 01, "Words": survey words as groups. Assumes nothing.
use Rattle.std.specs.Prelude.{ℕ, Bool, cond, ◌||◌, List, [], ◌∷◌, eqb}
use Rattle.layout.specs.Layout.{kind}

-- a device and a register take four words, an adapter one; so does what is none of these
unfoldable pub is_long : ℕ → Bool
is_long w = eqb (kind w) 3 || eqb (kind w) 5

unfoldable pub size_of : ℕ → ℕ
size_of w = cond (is_long w) 4 1

-- a group: its head word and, of a long one, the three words behind it; or one that the end cuts off
pub data Group : Type 0 where
  group : ℕ → ℕ → ℕ → ℕ → Group
  cut : Group

-- the groups that words are, one after another
unfoldable pub groups_of : List ℕ → List Group
groups_of [] = []
groups_of (w ∷ []) = cond (is_long w) (cut ∷ []) (group w 0 0 0 ∷ [])
groups_of (w ∷ a ∷ []) = cond (is_long w) (cut ∷ []) (group w 0 0 0 ∷ groups_of (a ∷ []))
groups_of (w ∷ a ∷ b ∷ []) = cond (is_long w) (cut ∷ []) (group w 0 0 0 ∷ groups_of (a ∷ b ∷ []))
groups_of (w ∷ a ∷ b ∷ c ∷ s) = cond (is_long w) (group w a b c ∷ groups_of s) (group w 0 0 0 ∷ groups_of (a ∷ b ∷ c ∷ s))
