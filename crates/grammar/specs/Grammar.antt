-- Document 01, the program's text: what a line is, and where markers and records may stand. 2 for the text's length, then 1, then 4. Assumes nothing.
use Rattle.std.specs.Prelude.{ℕ, ◌+◌, true, false, cond, List, [], ◌∷◌, map, ltb, length, Err, None, Ok, Option, Result, Some}
use Rattle.refusal.specs.Outcome.{Outcome, refused, value, bind}
use Rattle.scan.specs.Scan.{lines, is_high, place_from}
use Rattle.register.specs.Line.{meaning}
use Rattle.register.specs.declared.Register.{Register}
use Rattle.markers.specs.Markers.{Marker, Marker.router, Marker.xdomain, Marker.usb4, Marker.regs, Marker.adapter, Marker.paths, Marker.no_paths, Marker.bad, is_marker, marker_of}
use Rattle.grammar.specs.declared.Under.{Under}
use Rattle.grammar.specs.declared.Under.TheVariants as under
use Rattle.register.specs.declared.Skip.{Skip}

-- what a line is
pub data Item : Type 0 where
  marker : Marker → Item
  record' : Register → Item
  other : Item

unfoldable pub item_by : Result Register Skip → Item
item_by (Ok r) = record' r
item_by (Err w) = other

unfoldable pub item_of : List ℕ → Item
item_of s = cond (is_marker s) (marker (marker_of s)) (item_by (meaning s))

-- ---- where markers and records may stand: a marker that may stand leads on, any other is 4

unfoldable pub to_usb4 : Under → Option Under
to_usb4 under.Nothing = None
to_usb4 (under.Device r) = Some (under.WithUsb4 r)
to_usb4 (under.WithUsb4 r) = None
to_usb4 under.DeviceDump = None
to_usb4 under.Adapter = None
to_usb4 under.AdapterDump = None
to_usb4 under.PathDump = None
to_usb4 under.NoDump = None

-- registers are read of a router or an adapter
unfoldable pub to_regs : Under → Option Under
to_regs under.Nothing = None
to_regs (under.Device r) = cond r (Some under.DeviceDump) None
to_regs (under.WithUsb4 r) = cond r (Some under.DeviceDump) None
to_regs under.DeviceDump = None
to_regs under.Adapter = Some under.AdapterDump
to_regs under.AdapterDump = None
to_regs under.PathDump = None
to_regs under.NoDump = None

-- an adapter stands under a device
unfoldable pub to_adapter : Under → Option Under
to_adapter under.Nothing = None
to_adapter (under.Device r) = Some under.Adapter
to_adapter (under.WithUsb4 r) = Some under.Adapter
to_adapter under.DeviceDump = Some under.Adapter
to_adapter under.Adapter = Some under.Adapter
to_adapter under.AdapterDump = Some under.Adapter
to_adapter under.PathDump = Some under.Adapter
to_adapter under.NoDump = Some under.Adapter

-- one of the path markers, which leads to next
unfoldable pub to_paths : Under → Under → Option Under
to_paths next under.Nothing = None
to_paths next (under.Device r) = None
to_paths next (under.WithUsb4 r) = None
to_paths next under.DeviceDump = None
to_paths next under.Adapter = Some next
to_paths next under.AdapterDump = Some next
to_paths next under.PathDump = None
to_paths next under.NoDump = None

unfoldable pub step_of : Marker → Under → Option Under
step_of (router d r) u = Some (under.Device true)
step_of (xdomain d r) u = Some (under.Device false)
step_of usb4 u = to_usb4 u
step_of regs u = to_regs u
step_of (adapter n) u = to_adapter u
step_of paths u = to_paths under.PathDump u
step_of no_paths u = to_paths under.NoDump u
step_of bad u = None

-- a record stands in a dump
unfoldable pub in_dump : Under → Option Under
in_dump under.Nothing = None
in_dump (under.Device r) = None
in_dump (under.WithUsb4 r) = None
in_dump under.DeviceDump = Some under.DeviceDump
in_dump under.Adapter = None
in_dump under.AdapterDump = Some under.AdapterDump
in_dump under.PathDump = Some under.PathDump
in_dump under.NoDump = None

unfoldable pub item_step : Item → Under → Option Under
item_step (marker m) u = step_of m u
item_step (record' r) u = in_dump u
item_step other u = Some u

-- the words of a line's group
unfoldable pub marker_size : Marker → ℕ
marker_size (router d r) = 4
marker_size (xdomain d r) = 4
marker_size usb4 = 0
marker_size regs = 0
marker_size (adapter n) = 1
marker_size paths = 0
marker_size no_paths = 0
marker_size bad = 0

unfoldable pub item_size : Item → ℕ
item_size (marker m) = marker_size m
item_size (record' r) = 4
item_size other = 0

-- the number of words, or 4 with the words made so far, where the next head would stand
unfoldable pub check_by : ℕ → (Under → Outcome ℕ) → Option Under → Outcome ℕ
check_by made rest (Some u) = rest u
check_by made rest None = refused 4 (made ∷ [])

unfoldable pub check_from : ℕ → Under → List Item → Outcome ℕ
check_from made u [] = value made
check_from made u (i ∷ is) = check_by made (λ v. check_from (made + item_size i) v is) (item_step i u)

-- ---- the text

abbrev pub most_bytes : ℕ
most_bytes = 65536

abbrev pub most_words : ℕ
most_words = 16384

unfoldable pub items_of : List ℕ → List Item
items_of t = map item_of (lines t)

-- too long a survey is 4 with 16,384, if no line is bad
unfoldable pub in_limit : ℕ → Outcome ℕ
in_limit n = cond (ltb most_words n) (refused 4 (most_words ∷ [])) (value n)

-- the number of words of a text's survey: 2 for its length, then 1, then 4
unfoldable pub check_answer : List ℕ → Outcome ℕ
check_answer t =
    cond (ltb most_bytes (length t)) (refused 2 (length t ∷ []))
    (cond (ltb (place_from is_high t 0) (length t)) (refused 1 (place_from is_high t 0 ∷ []))
    (bind (check_from 0 under.Nothing (items_of t)) in_limit))
