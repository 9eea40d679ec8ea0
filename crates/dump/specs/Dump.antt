-- Document 01, module 3: a dump, as `read` reads it. Assumes nothing.
use Rattle.std.specs.Prelude.{ℕ, ◌≡◌, cond, ◌||◌, List, [], ◌∷◌, ◌++◌, map, ltb, length, drop, replicate, Result}
use Rattle.refusal.specs.Outcome.{Outcome, refused, value}
use Rattle.scan.specs.Scan.{lines, is_high, place_from}
use Rattle.groups.specs.Group.{group_of, words}
use Rattle.room.specs.Records.{records_of, words_needed}
use Rattle.dump.specs.Sort.{sort}
use Rattle.register.specs.declared.Register.{Register}
use Rattle.refusal.specs.Refusal.{outcome}
use Rattle.refusal.specs.declared.Refusal.{Refusal}

abbrev pub offset : Register → ℕ
offset r = r.offset

-- a dump's records, by offset, equal offsets in the dump's order
unfoldable pub records_in : List ℕ → List Register
records_in s = sort offset (records_of (lines s))

unfoldable pub dump_words : List ℕ → List ℕ
dump_words s = words (map group_of (records_in s))

-- by the words of room in each: a byte above 127 is 1, with its place; too little room is 2, with the words needed; else the number of records
unfoldable pub dump_answer : List ℕ → ℕ → ℕ → Outcome ℕ
dump_answer s in_scratch in_output =
    cond (ltb (place_from is_high s 0) (length s)) (refused 1 (place_from is_high s 0 ∷ []))
    (cond (ltb in_scratch (words_needed s) || ltb in_output (words_needed s)) (refused 2 (words_needed s ∷ []))
    (value (length (records_of (lines s)))))

-- after a refusal the scratch is as it was, else all of it is 0
unfoldable pub scratch_after : Outcome ℕ → List ℕ → List ℕ
scratch_after (refused n vs) old = old
scratch_after (value n) old = replicate (length old) 0

-- after a refusal the output is as it was, else the words stand at its front and the rest is kept
unfoldable pub output_after : Outcome ℕ → List ℕ → List ℕ → List ℕ
output_after (refused n vs) s old = old
output_after (value n) s old = dump_words s ++ drop (words_needed s) old

-- the dump reader's complete outcome: what it answers, and both buffers afterwards
pub record ReadDone (s scratch output : List ℕ) (r : Result ℕ Refusal) (scratch' output' : List ℕ) : Type 0 where
  pub answers : outcome r ≡ dump_answer s (length scratch) (length output)
  pub clears : scratch' ≡ scratch_after (outcome r) scratch
  pub writes : output' ≡ output_after (outcome r) s output
