-- For the contracts of private functions only: sections by their places in a text. No promise to a caller rests on these. Assumes nothing.
use Rattle.std.specs.Prelude.{ℕ, ◌+◌, ◌-◌, ◌%◌, ◌≤◌, ◌<◌, ◌≡◌, Bool, cond, List, [], ◌∷◌, ◌++◌, map, length, take, drop, get_or}
use Rattle.scan.specs.Scan.{lines}
use Rattle.register.specs.declared.Register.{Register}
use Rattle.groups.specs.Group.{words}
use Rattle.dump.specs.Sort.{sort}
use Rattle.room.specs.Records.{records_of as dump_records}
use Rattle.dump.specs.Dump.{offset}
use Rattle.markers.specs.Markers.{Marker, Marker.bad, marker_of}
use Rattle.grammar.specs.Grammar.{items_of}
use Rattle.text.specs.Text.{Section, records_of, sections_of, path_group, marker_words}

unfoldable pub sections_from : List ℕ → ℕ → List Section
sections_from t i = sections_of (items_of (drop i t))

unfoldable pub records_from : List ℕ → ℕ → List Register
records_from t i = records_of (items_of (drop i t))

abbrev pub part_of : List ℕ → ℕ → ℕ → List ℕ
part_of t i j = take (j - i) (drop i t)

-- a marker line stands at i, or the end
abbrev pub Stands : List ℕ → ℕ → Type 0
Stands t i = i < length t → get_or t i 0 ≡ 64

-- no byte is above 127
abbrev pub Low : List ℕ → Type 0
Low t = (i : ℕ) → i < length t → get_or t i 0 ≤ 127

-- the marker that stands next, or one that says nothing of a head
unfoldable pub next_marker : List Section → Marker
next_marker [] = bad
next_marker (s ∷ ss) = s.head

-- the sections after the next, where that is passed
unfoldable pub past_next : Bool → List Section → List Section
past_next b [] = []
past_next b (s ∷ ss) = cond b ss (s ∷ ss)

-- from one place to the next marker, or the end, there are lines that are no markers
pub record Skipped (t : List ℕ) (from r : ℕ) : Type 0 where
  pub above : from ≤ r
  pub within : r ≤ length t
  pub sections : sections_from t from ≡ sections_from t r
  pub records : records_from t from ≡ dump_records (lines (part_of t from r))
  pub stands : Stands t r

-- the line after one that ends at e starts at r
pub record NextLine (t : List ℕ) (e r : ℕ) : Type 0 where
  pub above : e ≤ r
  pub within : r ≤ length t
  pub same : drop (e + 1) t ≡ drop r t

-- the marker after the one at a place, where that is passed
pub record PastMark (t : List ℕ) (at : ℕ) (b : Bool) (r : ℕ) : Type 0 where
  pub sections : sections_from t r ≡ past_next b (sections_from t at)
  pub stands : Stands t r

-- the words of a path dump
unfoldable pub path_words : List ℕ → List ℕ
path_words s = words (map path_group (sort offset (dump_records (lines s))))

-- the words of a marker line, the lines after it, and the sections after these
unfoldable pub body_words : List ℕ → List ℕ → List Section → List ℕ
body_words line body ss = marker_words (marker_of line) (dump_records (lines body)) ss

-- words put at a place, and the next place
pub record PutAt (ws : List ℕ) (k : ℕ) (out : List ℕ) (r : ℕ) (out' : List ℕ) : Type 0 where
  pub next : r ≡ k + length ws
  pub written : out' ≡ take k out ++ ws ++ drop r out

-- groups whose heads get bit 16, their offsets kept
unfoldable pub marked : List ℕ → List ℕ
marked [] = []
marked (a ∷ []) = a ∷ []
marked (a ∷ b ∷ []) = a ∷ b ∷ []
marked (a ∷ b ∷ c ∷ []) = a ∷ b ∷ c ∷ []
marked (a ∷ b ∷ c ∷ d ∷ s) = (0x50010000 + a % 65536) ∷ b ∷ c ∷ d ∷ marked s
