-- Document 01, result words of a path. Assumes nothing.
use Rattle.std.specs.Prelude.{ℕ, ◌+◌, ◌*◌, cond, List, [], ◌∷◌, ◌++◌, ltb, length, drop, Option, None, Some}
use Rattle.refusal.specs.Outcome.{Outcome, refused, value}
use Rattle.tables.specs.Rows.{EntryRow}

-- a hop: kind 10, place, in adapter, out adapter; then in HopID and out HopID
unfoldable pub hop_words : EntryRow → List ℕ
hop_words e = (10 * 268435456 + e.device * 65536 + e.adapter * 256 + e.out_adapter) ∷ (e.in_hop * 65536 + e.out_hop) ∷ []

unfoldable pub hops_words : List EntryRow → List ℕ
hops_words [] = []
hops_words (e ∷ es) = hop_words e ++ hops_words es

-- a path: kind 9, its name, which four bits have room for, and its number of hops; then the hops
unfoldable pub path_words : ℕ → List EntryRow → List ℕ
path_words name hs = (9 * 268435456 + name * 65536 + length hs) ∷ hops_words hs

unfoldable pub words_needed : ℕ → List EntryRow → ℕ
words_needed name hs = length (path_words name hs)

unfoldable pub with_path : ℕ → List EntryRow → List ℕ → List ℕ
with_path name hs old = path_words name hs ++ drop (words_needed name hs) old

-- the output as it was, but where a path is answered
unfoldable pub output_by : ℕ → Outcome (Option (List EntryRow)) → List ℕ → List ℕ
output_by name (refused n vs) old = old
output_by name (value None) old = old
output_by name (value (Some hs)) old = cond (ltb (length old) (words_needed name hs)) old (with_path name hs old)
