-- Document 01, the program's text to survey words, each dump sorted as the dump reader sorts it. Assumes nothing.
use Rattle.std.specs.Prelude.{ℕ, ◌+◌, ◌*◌, ◌/◌, ◌%◌, ◌≡◌, Bool, true, false, cond, List, [], ◌∷◌, ◌++◌, map, ltb, length, drop, Result}
use Rattle.refusal.specs.Outcome.{Outcome, refused, value, bind}
use Rattle.register.specs.declared.Register.{Register}
use Rattle.groups.specs.Group.{group_of, words}
use Rattle.groups.specs.declared.Group.{Group}
use Rattle.dump.specs.Sort.{sort}
use Rattle.dump.specs.Dump.{offset}
use Rattle.markers.specs.Markers.{Marker, Marker.router, Marker.xdomain, Marker.usb4, Marker.regs, Marker.adapter, Marker.paths, Marker.no_paths, Marker.bad}
use Rattle.grammar.specs.Grammar.{Item, Item.marker, Item.record', Item.other, items_of, check_answer}
use Rattle.refusal.specs.Refusal.{outcome}
use Rattle.refusal.specs.declared.Refusal.{Refusal}

-- a marker, and the records up to the next
pub record Section : Type 0 where
  pub head : Marker
  pub records : List Register

unfoldable pub records_of : List Item → List Register
records_of [] = []
records_of (marker m ∷ is) = []
records_of (record' r ∷ is) = r ∷ records_of is
records_of (other ∷ is) = records_of is

unfoldable pub sections_of : List Item → List Section
sections_of [] = []
sections_of (marker m ∷ is) = record { head = m; records = records_of is } ∷ sections_of is
sections_of (record' r ∷ is) = sections_of is
sections_of (other ∷ is) = sections_of is

-- what the markers after a head say of it
unfoldable pub is_usb4 : Marker → Bool
is_usb4 (router d r) = false
is_usb4 (xdomain d r) = false
is_usb4 usb4 = true
is_usb4 regs = false
is_usb4 (adapter n) = false
is_usb4 paths = false
is_usb4 no_paths = false
is_usb4 bad = false

unfoldable pub is_regs : Marker → Bool
is_regs (router d r) = false
is_regs (xdomain d r) = false
is_regs usb4 = false
is_regs regs = true
is_regs (adapter n) = false
is_regs paths = false
is_regs no_paths = false
is_regs bad = false

-- a path dump: read 1, looked for and missing 2
unfoldable pub path_mark : Marker → ℕ
path_mark (router d r) = 0
path_mark (xdomain d r) = 0
path_mark usb4 = 0
path_mark regs = 0
path_mark (adapter n) = 0
path_mark paths = 1
path_mark no_paths = 2
path_mark bad = 0

unfoldable pub next_is : (Marker → Bool) → List Section → Bool
next_is p [] = false
next_is p (s ∷ ss) = p s.head

unfoldable pub next_path : List Section → ℕ
next_path [] = 0
next_path (s ∷ ss) = path_mark s.head

-- the sections after the next, if its marker is such a one
unfoldable pub past : (Marker → Bool) → List Section → List Section
past p [] = []
past p (s ∷ ss) = cond (p s.head) ss (s ∷ ss)

unfoldable pub bit : Bool → ℕ
bit true = 1
bit false = 0

-- a device: its kind, USB4, registers read
unfoldable pub device_head : ℕ → List Section → ℕ
device_head kind ss = 3 * 268435456 + kind * 16777216 + 2 * bit (next_is is_regs (past is_usb4 ss)) + bit (next_is is_usb4 ss)

-- an adapter: its number, registers read, path dump read or missing
unfoldable pub adapter_head : ℕ → List Section → ℕ
adapter_head n ss = 4 * 268435456 + 512 * next_path (past is_regs ss) + 256 * bit (next_is is_regs ss) + n

-- a path dump's records have bit 16
unfoldable pub path_group : Register → Group
path_group r = record { head = (group_of r).head + 65536; ids = (group_of r).ids; vs = (group_of r).vs; value = (group_of r).value }

-- a device's group: its head, domain, route low, route high
unfoldable pub device_words : ℕ → ℕ → ℕ → List Section → List ℕ
device_words kind d r ss = device_head kind ss ∷ d ∷ (r % 4294967296) ∷ (r / 4294967296) ∷ []

-- the words of a marker, with its records and the sections after it; each dump sorted as the dump reader sorts it
unfoldable pub marker_words : Marker → List Register → List Section → List ℕ
marker_words (router d r) rs ss = device_words 1 d r ss
marker_words (xdomain d r) rs ss = device_words 2 d r ss
marker_words usb4 rs ss = []
marker_words regs rs ss = words (map group_of (sort offset rs))
marker_words (adapter n) rs ss = adapter_head n ss ∷ []
marker_words paths rs ss = words (map path_group (sort offset rs))
marker_words no_paths rs ss = []
marker_words bad rs ss = []

unfoldable pub survey_words : List Section → List ℕ
survey_words [] = []
survey_words (s ∷ ss) = marker_words s.head s.records ss ++ survey_words ss

-- the survey words of a text: 2 for its length, then 1, then 4
unfoldable pub survey_of : List ℕ → Outcome (List ℕ)
survey_of t = bind (check_answer t) (λ n. value (survey_words (sections_of (items_of t))))

-- 2 last, with the words needed
unfoldable pub in_room : ℕ → List ℕ → Outcome ℕ
in_room room ws = cond (ltb room (length ws)) (refused 2 (length ws ∷ [])) (value (length ws))

-- the output as it was, but where words are answered
unfoldable pub output_by : Outcome (List ℕ) → List ℕ → List ℕ
output_by (refused n vs) old = old
output_by (value ws) old = cond (ltb (length old) (length ws)) old (ws ++ drop (length ws) old)

-- the whole outcome of the call
pub record TextDone (t output : List ℕ) (r : Result ℕ Refusal) (output' : List ℕ) : Type 0 where
  pub answers : outcome r ≡ bind (survey_of t) (in_room (length output))
  pub writes : output' ≡ output_by (survey_of t) output
