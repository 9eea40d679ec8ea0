-- The search for a ring's receive path, on tables. Assumes nothing.
use Rattle.std.specs.Prelude.{ℕ, suc, ◌/◌, ◌%◌, ◌^◌, ◌≤◌, ◌<◌, ◌≡◌, Bool, true, false, cond, List, [], ◌∷◌, eqb, length, take, Option, None as absent, Some, Result, Ok, Err}
use Rattle.refusal.specs.Outcome.{Outcome, value, bind}
use Rattle.tables.specs.Rows.{Rows}
use Rattle.refusal.specs.Refusal.{refused_by, of_walk}
use Rattle.walk.specs.Rule.{walk_from, stand_of}
use Rattle.walk.specs.Tables.{Leaving, last_of, leaving_by, leaves}
use Rattle.receive.specs.Receive.{at, Receive, Receive.received, Receive.nothing, Receive.lost, receive}
use Rattle.receive.specs.declared.Received.{Received}
use Rattle.refusal.specs.declared.WalkError.{WalkError}
use Rattle.receive.specs.declared.Received.TheVariants as answer
use Rattle.receive.specs.declared.ReceivePath.{ReceivePath}
use Rattle.tables.specs.declared.Stand.{Stand}
use Rattle.tables.specs.declared.Tables.{Tables}
use Rattle.tables.specs.Tables.{Tabled, rows_of}

-- what is said of a search: of a path its start, and by what it leaves
pub data Said : Type 0 where
  path : Stand → Leaving → Said
  none : Said
  dropped : Said

-- a path starts where its first hop stands
unfoldable pub said_of : Receive → Said
said_of (received []) = none
said_of (received (h ∷ hs)) = path (stand_of h) (leaving_by (suc (length hs)) (last_of h hs))
said_of nothing = none
said_of lost = dropped

-- document 01's number and values for what is answered; a receive path leaves by its ring
unfoldable pub received_outcome : ℕ → Result Received WalkError → Outcome Said
received_outcome ring (Ok (answer.Path p)) = value (path p.start (record { hops = p.hops; place = p.out_place; adapter = p.out_adapter; hop_id = ring }))
received_outcome ring (Ok answer.Nothing) = value none
received_outcome ring (Ok answer.Lost) = value dropped
received_outcome ring (Err r) = refused_by (of_walk r)

-- a path by its start, its number of hops, and the place and adapter by which it leaves
abbrev pub path_of : Stand → ℕ → ℕ → ℕ → ReceivePath
path_of s k p a = record { start = s; hops = k; out_place = p; out_adapter = a }

unfoldable pub hops_by : Result Received WalkError → ℕ
hops_by (Ok (answer.Path p)) = p.hops
hops_by (Ok answer.Nothing) = 0
hops_by (Ok answer.Lost) = 0
hops_by (Err r) = 0

-- ---- the paths that a search passes

-- a path noted as a word: the place, adapter and HopID from which it starts, 16 bits, 8 and 16, and the HopID that it leaves by
unfoldable pub note_stand : ℕ → Stand
note_stand w = at (w / 2 ^ 40 % 65536) (w / 2 ^ 32 % 256) (w / 2 ^ 16 % 65536)

unfoldable pub note_ring : ℕ → ℕ
note_ring w = w % 65536

-- what is said of the walk from a stand, as of a path that leaves by a ring: a note under that ring is read as such a walk
unfoldable pub said_from : ℕ → Stand → Option Leaving → Said
said_from ring s absent = none
said_from ring s (Some l) = path s (record { hops = l.hops; place = l.place; adapter = l.adapter; hop_id = ring })

unfoldable pub walk_said : Rows → ℕ → Stand → Outcome Said
walk_said x ring s = bind (bind (walk_from x s) (λ o. value (leaves o))) (λ l. value (said_from ring s l))

-- of the first that leaves by the ring; of none, the rest
unfoldable pub by_notes : Rows → ℕ → List ℕ → Outcome Said → Outcome Said
by_notes x ring [] rest = rest
by_notes x ring (w ∷ ws) rest = cond (eqb (note_ring w) ring) (walk_said x ring (note_stand w)) (by_notes x ring ws rest)

-- a path was found
unfoldable pub is_path : Result Received WalkError → Bool
is_path (Ok (answer.Path p)) = true
is_path (Ok answer.Nothing) = false
is_path (Ok answer.Lost) = false
is_path (Err r) = false

-- In tables in order, what is noted and how it ends tells what the search for any ring comes to.
pub record Foretells (tables : Tables) (notes : List ℕ) (end : Result Received WalkError) : Type 0 where
  pub tells : Tabled tables → (ring : ℕ) → bind (receive (rows_of tables) ring) (λ v. value (said_of v)) ≡ by_notes (rows_of tables) ring notes (received_outcome ring end)

-- In tables in order it is what the search comes to. In any others it is free, but that a path has no more hops than there are entries.
pub record Receives (tables : Tables) (ring : ℕ) (r : Result Received WalkError) : Type 0 where
  pub answers : Tabled tables → received_outcome ring r ≡ bind (receive (rows_of tables) ring) (λ v. value (said_of v))
  pub few : hops_by r ≤ length tables.entries.now

-- The same with notes for the search of other rings, in a list that has room for some number of them. Document 01 has none. Fewer than the room, where no path is found, tell with what is found what the search for any ring comes to. The rest is free, and only time hangs on it: how many there are, up to the room, which tell nothing, as any number does where a path is found; the notes themselves then; their order under different rings; a second note under a ring; a note that says no more than what is found; and the words after the notes.
pub record Searches (room : ℕ) (tables : Tables) (ring : ℕ) (found : Result Received WalkError) (noted : ℕ) (notes : List ℕ) : Type 0 where
  pub comes : Receives tables ring found
  pub long : length notes ≡ room
  pub within : noted ≤ room
  pub tells : is_path found ≡ false → noted < room → Foretells tables (take noted notes) found
