-- For the contracts of private functions only. No promise to a caller rests on these. Assumes nothing.
use Rattle.std.specs.Option.{option_to_list}
use Rattle.std.specs.Prelude.{ℕ, ◌+◌, ◌/◌, ◌%◌, ◌≤◌, ◌<◌, ◌≡◌, ◌⊎◌, Bool, true, false, cond, ◌||◌, ltb, eqb, length, get_or, take, drop, Option, None, Some, Err, Ok, Result}
use mathlib.Core.List.{List, [], ◌∷◌, ◌++◌, map}
use Rattle.refusal.specs.Outcome.{Outcome, value, bind}
use Rattle.usb4.specs.declared.TunnelType.TheVariants as tunnel_type
use Rattle.tables.specs.Rows.{EntryRow, Rows, entry_in}
use Rattle.tables.specs.Packed.{entries_in}
use Rattle.refusal.specs.Refusal.{is_given, IsMet, outcome, walk_outcome}
use Rattle.walk.specs.Rule.{walk_from}
use Rattle.path.specs.Words.{path_words}
use Rattle.receive.specs.Receive.{Receive, receive}
use Rattle.receive.specs.Tables.{received_outcome, hops_by, note_ring, note_stand, walk_said, is_path, Foretells}
use Rattle.receive.specs.declared.Received.{Received}
use Rattle.tunnel.specs.Tunnels.{Path, Tunnel, down_and_up, display_port, one_dma, rings, or_none, alone}
use Rattle.tunnel.specs.Words.{tunnels_words}
use Rattle.tunnel.specs.Plans.{Start, start_of, plan_if, planned_outcome}
use Rattle.tunnel.specs.declared.Plan.{Plan as Planned}
use Rattle.discovery.specs.Answers.{in_room, output_by}
use Rattle.refusal.specs.Refusal.{outcome, is_given, IsMet, walk_outcome}
use Rattle.refusal.specs.declared.Refusal.{Refusal}
use Rattle.tables.specs.declared.Tables.{Tables}
use Rattle.tables.specs.Tables.{Sized, Tabled, rows_of}
use Rattle.refusal.specs.declared.WalkError.{WalkError}

-- words put from a place on, and the place after them
pub record Wrote (at : ℕ) (ws out : List ℕ) (r : ℕ) (out' : List ℕ) : Type 0 where
  pub next : r ≡ at + length ws
  pub whole : out' ≡ take at out ++ ws ++ drop r out

-- the path from a start, where there is one
pub record PathPut (tables : Tables) (f : Start) (at : ℕ) (out : List ℕ) (r : ℕ) (out' : List ℕ) : Type 0 where
  pub within : r ≤ length out
  pub long : length out' ≡ length out
  pub words : Sized tables → Tabled tables → (hs : List EntryRow) → walk_from (rows_of tables) f.stand ≡ value (Some hs) → at + length (path_words f.name hs) ≤ length out → Wrote at (path_words f.name hs) out r out'

-- each path is the walk from where its first hop stands
unfoldable pub AllWalk : Rows → List Path → Type 0
AllWalk x [] = 0 ≤ 0
AllWalk x (p ∷ ps) = (walk_from x (start_of p.hops) ≡ value (Some p.hops)) × AllWalk x ps

unfoldable pub Walks : Rows → Option Tunnel → Type 0
Walks x None = 0 ≤ 0
Walks x (Some t) = AllWalk x t.paths

-- the tunnel that is planned, if there is one
pub record PlanPut (tables : Tables) (plan : Option Planned) (at : ℕ) (out : List ℕ) (r : ℕ) (out' : List ℕ) : Type 0 where
  pub within : r ≤ length out
  pub long : length out' ≡ length out
  pub words : Sized tables → Tabled tables → (o : Option Tunnel) → planned_outcome (Ok plan) ≡ value (plan_if o) → Walks (rows_of tables) o → at + length (tunnels_words (option_to_list o)) ≤ length out
      → Wrote at (tunnels_words (option_to_list o)) out r out'

-- the words of a plan; none has none
unfoldable pub tally_of : Option Planned → ℕ
tally_of (Some p) = p.words
tally_of None = 0

-- where rings end: no entry has a HopID above 65,535
unfoldable pub rings_end : ℕ → ℕ
rings_end most = cond (ltb 65535 most) 65536 (most + 1)

-- where a ring's mark stands: those from 2,047 on have one together
unfoldable pub mark_of : ℕ → ℕ
mark_of ring = cond (ltb 2047 ring) 2047 ring

-- a ring is marked, if it needs no words and has a mark of its own, and no other
pub record Marked (ring words : ℕ) (old new : List Bool) : Type 0 where
  pub marks : (j : ℕ) → get_or new j false ≡ true → (get_or old j false ≡ true) ⊎ ((j ≡ ring) × (ring < 2047) × (words < 1))

-- a ring that is marked has no tunnel
pub record Idle (tables : Tables) (p a : ℕ) (idle : List Bool) : Type 0 where
  pub rests : Sized tables → Tabled tables → p < 65536 → (j : ℕ) → get_or idle (mark_of j) false ≡ true → one_dma (rows_of tables) p a j ≡ value None

-- a number is in a list
unfoldable pub among : ℕ → List ℕ → Bool
among v [] = false
among v (x ∷ l) = eqb x v || among v l

-- the HopIDs by which entries leave
unfoldable pub out_hops : List ℕ → List ℕ
out_hops en = map (λ (e : EntryRow). e.out_hop) (entries_in en)

-- the search for a receive path is not refused for a ring that no entry leaves by
pub record Quiet (tables : Tables) : Type 0 where
  pub searched : Tabled tables → (v : ℕ) → among v (out_hops tables.entries.now) ≡ false → (r : Receive) × (receive (rows_of tables) v ≡ value r)

-- no entry leaves by a ring, and none stands at it
pub record Unasked (en : List ℕ) (p a ring : ℕ) : Type 0 where
  pub unused : among ring (out_hops en) ≡ false
  pub missing : p < 65536 → entry_in (entries_in en) p a ring ≡ None

-- there is no mark at a place, and no other mark is new
pub record Unmarked (i : ℕ) (old new : List Bool) : Type 0 where
  pub keeps : (j : ℕ) → get_or new j false ≡ true → (get_or old j false ≡ true) × (i ≡ j → ⊥)

-- the same of the ring that an entry leaves by and, where the entry is an owner's (place x 256 + adapter), of the one at which it stands
pub record Spared (w owner : ℕ) (old new : List Bool) : Type 0 where
  pub keeps : (j : ℕ) → get_or new j false ≡ true → (get_or old j false ≡ true) × (mark_of (w % 65536) ≡ j → ⊥) × (w / 1099511627776 ≡ owner → mark_of (w / 16777216 % 65536) ≡ j → ⊥)

-- no entry leaves by a ring that is marked, and none stands at it
pub record Resting (en : List ℕ) (p a : ℕ) (idle : List Bool) : Type 0 where
  pub rests : (j : ℕ) → get_or idle (mark_of j) false ≡ true → Unasked en p a j

-- those of a search's notes that are there, if no path is found, and they are fewer than there is room for
pub record Known (room : ℕ) (found : Result Received WalkError) (noted : ℕ) (notes : List ℕ) (r : Option (List ℕ)) : Type 0 where
  pub known : (ns : List ℕ) → r ≡ Some ns → (ns ≡ take noted notes) × (noted < room) × (is_path found ≡ false)

-- notes, if there are any, tell of all rings with what the search came to
pub record Told (tables : Tables) (notes : Option (List ℕ)) (last : Result Received WalkError) : Type 0 where
  pub tells : (ns : List ℕ) → notes ≡ Some ns → Foretells tables ns last
  pub few : hops_by last ≤ length tables.entries.now

-- a note's path leaves by a ring
abbrev pub under : ℕ → ℕ → Bool
under ring note = eqb (note_ring note) ring

-- what is said of a note's path
pub record NotePath (tables : Tables) (ring note : ℕ) (r : Result Received WalkError) : Type 0 where
  pub says : Tabled tables → received_outcome ring r ≡ walk_said (rows_of tables) ring (note_stand note)
  pub few : hops_by r ≤ length tables.entries.now

-- the words of the tunnels of k rings from 1 on
pub record Tallies (tables : Tables) (p a k : ℕ) (r : Result ℕ WalkError) : Type 0 where
  pub counts : Sized tables → Tabled tables → p < 65536 → walk_outcome r ≡ bind (rings (rows_of tables) p a 1 k) (λ ts. value (length (tunnels_words ts)))

-- the words of the tunnels of k rings from 1 on stand at the front, where there is room for them
pub record Drafted (tables : Tables) (p a k : ℕ) (draft : List ℕ) : Type 0 where
  pub words : Sized tables → Tabled tables → p < 65536 → (ts : List Tunnel) → rings (rows_of tables) p a 1 k ≡ value ts → length (tunnels_words ts) ≤ length draft → take (length (tunnels_words ts)) draft ≡ tunnels_words ts

-- the tunnel of a ring, if it has one
pub record RingPut (tables : Tables) (p a ring at : ℕ) (out : List ℕ) (r : ℕ) (out' : List ℕ) : Type 0 where
  pub within : r ≤ length out
  pub long : length out' ≡ length out
  pub words : Sized tables → Tabled tables → p < 65536 → (o : Option Tunnel) → one_dma (rows_of tables) p a ring ≡ value o → at + length (tunnels_words (option_to_list o)) ≤ length out
      → Wrote at (tunnels_words (option_to_list o)) out r out'

-- an output as long as these words
pub record RingsPut (tables : Tables) (p a k : ℕ) (out out' : List ℕ) : Type 0 where
  pub long : length out' ≡ length out
  pub words : Sized tables → Tabled tables → p < 65536 → (ts : List Tunnel) → rings (rows_of tables) p a 1 k ≡ value ts → length out ≡ length (tunnels_words ts) → out' ≡ tunnels_words ts

-- what is answered and written follows what is discovered
pub record Follows (o : Outcome (Option (List Tunnel))) (out : List ℕ) (r : Result (Option ℕ) Refusal) (out' : List ℕ) : Type 0 where
  pub answers : outcome r ≡ bind o (in_room (length out))
  pub writes : out' ≡ output_by o out

-- what holds on any tables
pub record Free (out : List ℕ) (r : Result (Option ℕ) Refusal) (out' : List ℕ) : Type 0 where
  pub met : (m : Refusal) → r ≡ Err m → IsMet m
  pub kept : is_given r ≡ false → out' ≡ out
  pub fits : (n : ℕ) → r ≡ Ok (Some n) → n ≤ length out
  pub tail : (n : ℕ) → r ≡ Ok (Some n) → drop n out' ≡ drop n out
  pub long : length out' ≡ length out

-- a plan's tunnel, whatever it is the plan of
pub record OneAnswered (tables : Tables) (plan : Option Planned) (out : List ℕ) (r : Result (Option ℕ) Refusal) (out' : List ℕ) : Type 0 where
  pub follows : Sized tables → Tabled tables → (o : Outcome (Option Tunnel)) → planned_outcome (Ok plan) ≡ bind o (λ t. value (plan_if t)) → ((t : Option Tunnel) → o ≡ value t → Walks (rows_of tables) t) → Follows (bind o alone) out r out'
  pub free : Free out r out'

-- what f discovers in rows, for a place that a key has room for
pub record Answered (tables : Tables) (p : ℕ) (f : Rows → Outcome (Option (List Tunnel))) (out : List ℕ) (r : Result (Option ℕ) Refusal) (out' : List ℕ) : Type 0 where
  pub follows : Sized tables → Tabled tables → p < 65536 → Follows (f (rows_of tables)) out r out'
  pub free : Free out r out'

-- the tunnels of k rings from 1 on, as a list that is there
abbrev pub ring_list : Rows → ℕ → ℕ → ℕ → Outcome (Option (List Tunnel))
ring_list x p a k = bind (rings x p a 1 k) (λ ts. value (Some ts))

-- the rings of a host interface, by its largest HopID
unfoldable pub dma_by : Rows → ℕ → ℕ → Outcome (Option ℕ) → Outcome (Option (List Tunnel))
dma_by x p a o = bind o (λ m. or_none m (λ hi. ring_list x p a hi))

-- the tunnel of an adapter that has one at most, by the number of its kind
unfoldable pub tunnel_by : Rows → ℕ → ℕ → ℕ → Outcome (Option Tunnel)
tunnel_by x p a n = cond (eqb n 4) (display_port x p a) (cond (eqb n 6) (down_and_up x tunnel_type.Pcie 5 6 p a) (cond (eqb n 8) (down_and_up x tunnel_type.Usb3 0 1 p a) (value None)))
