-- Document 01, module 3: the records of a dump's lines, and the room that their words need. Assumes nothing.
use Rattle.std.specs.Prelude.{ℕ, ◌*◌, ◌≤◌, ◌≡◌, true, ◌||◌, List, [], ◌∷◌, ltb, length, Err, Ok, Result}
use Rattle.scan.specs.Scan.{lines}
use Rattle.register.specs.Line.{meaning}
use Rattle.register.specs.declared.Register.{Register}
use Rattle.refusal.specs.declared.Refusal.{Refusal}
use Rattle.register.specs.declared.Skip.{Skip}
use Rattle.refusal.specs.declared.Refusal.TheVariants as refusal

unfoldable pub with_record : Result Register Skip → List Register → List Register
with_record (Ok r) rs = r ∷ rs
with_record (Err w) rs = rs

-- the records of lines, in their order; the other lines are skipped
unfoldable pub records_of : List (List ℕ) → List Register
records_of [] = []
records_of (l ∷ ls) = with_record (meaning l) (records_of ls)

-- four words a record, in the scratch and in the output
unfoldable pub words_needed : List ℕ → ℕ
words_needed s = 4 * length (records_of (lines s))

-- there is room for a dump's records in both buffers, or one is short of the words needed
unfoldable pub RoomFor : List ℕ → ℕ → ℕ → Result Unit Refusal → Type 0
RoomFor s a b (Ok u) = (words_needed s ≤ a) × (words_needed s ≤ b)
RoomFor s a b (Err r) = (r ≡ refusal.Short (words_needed s)) × ((ltb a (words_needed s) || ltb b (words_needed s)) ≡ true)
