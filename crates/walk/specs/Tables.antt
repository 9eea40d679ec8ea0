-- The walk on tables: its number of hops, and by what it leaves. Assumes nothing.
use Rattle.std.specs.Prelude.{ℕ, suc, ◌≤◌, ◌<◌, ◌≡◌, List, [], ◌∷◌, ltb, length, Option, None, Some, Ok, Err, Result}
use Rattle.refusal.specs.Outcome.{Outcome, value, bind}
use Rattle.tables.specs.Rows.{EntryRow, DeviceRow}
use Rattle.tables.specs.Found.{EntrySought}
use Rattle.load.specs.Answers.{asked_device}
use Rattle.refusal.specs.Refusal.{refused_by, of_walk, is_given}
use Rattle.walk.specs.Rule.{walk_from, WalkRule}
use Rattle.adapter.specs.declared.EntryOut.{EntryOut}
use Rattle.walk.specs.declared.Walked.{Walked}
use Rattle.refusal.specs.declared.WalkError.{WalkError}
use Rattle.tables.specs.declared.Stand.{Stand}
use Rattle.tables.specs.declared.Tables.{Tables}
use Rattle.tables.specs.Tables.{Tabled, rows_of}

-- a path's number of hops, and by what it leaves: its last hop's place, out adapter and out HopID
pub record Leaving : Type 0 where
  pub hops : ℕ
  pub place : ℕ
  pub adapter : ℕ
  pub hop_id : ℕ

unfoldable pub last_of : EntryRow → List EntryRow → EntryRow
last_of e [] = e
last_of e (h ∷ hs) = last_of h hs

unfoldable pub leaving_by : ℕ → EntryRow → Leaving
leaving_by n e = record { hops = n; place = e.device; adapter = e.out_adapter; hop_id = e.out_hop }

-- a path has a hop
unfoldable pub leaving_of : List EntryRow → Option Leaving
leaving_of [] = None
leaving_of (h ∷ hs) = Some (leaving_by (suc (length hs)) (last_of h hs))

unfoldable pub leaves : Option (List EntryRow) → Option Leaving
leaves None = None
leaves (Some hs) = leaving_of hs

-- a path of n hops that leaves by adapter a of the device at place q with HopID h, as it is answered
abbrev pub walked_to : ℕ → ℕ → ℕ → ℕ → Result (Option Walked) WalkError
walked_to n q a h = Ok (Some (record { hops = n; place = q; adapter = a; hop = h }))

-- document 01's number and values for what is answered, with the path's end, and with its number of hops alone
unfoldable pub tally_outcome : Result (Option Walked) WalkError → Outcome (Option Leaving)
tally_outcome (Ok (Some w)) = value (Some (record { hops = w.hops; place = w.place; adapter = w.adapter; hop_id = w.hop }))
tally_outcome (Ok None) = value None
tally_outcome (Err e) = refused_by (of_walk e)

unfoldable pub hops_outcome : Result (Option Walked) WalkError → Outcome (Option ℕ)
hops_outcome (Ok (Some w)) = value (Some w.hops)
hops_outcome (Ok None) = value None
hops_outcome (Err e) = refused_by (of_walk e)

unfoldable pub hops_by : Result (Option Walked) WalkError → ℕ
hops_by (Ok (Some w)) = w.hops
hops_by (Ok None) = 0
hops_by (Err r) = 0

-- nothing is written, so nothing is needed
unfoldable pub no_need : List EntryRow → ℕ
no_need hs = 0

-- In tables in order it is how the walk ends. In any others it is free, but that it is a fault or 14 where it is refused, that a path has a hop, and no more than there are entries.
pub record Tallied (tables : Tables) (s : Stand) (r : Result (Option Walked) WalkError) : Type 0 where
  pub answers : Tabled tables → s.place < 65536 → tally_outcome r ≡ bind (walk_from (rows_of tables) s) (λ o. value (leaves o))
  pub past : 65535 < s.place → r ≡ (Ok None)
  pub few : hops_by r ≤ length tables.entries.now
  pub one : is_given r ≡ ltb 0 (hops_by r)
  -- every start at a device that is there
  pub walks : Tabled tables → (d : DeviceRow) → asked_device (rows_of tables) s.place ≡ value d
      → WalkRule (rows_of tables) s no_need 0 (λ hs. tally_outcome r ≡ value (leaving_of hs)) (hops_outcome r)

-- How each walk ends that starts at the device at place p and finds there an entry with this out adapter and out HopID. Where no walk finds such an entry it is free, but that a path has a hop, and no more than there are entries.
pub record Onward (tables : Tables) (p : ℕ) (out : EntryOut) (r : Result (Option Walked) WalkError) : Type 0 where
  pub ends : (a h : ℕ) → EntrySought tables.entries.now p a h (Some out) → Tallied tables (record { place = p; adapter = a; hop_id = h }) r
  pub few : hops_by r ≤ length tables.entries.now
  pub one : is_given r ≡ ltb 0 (hops_by r)
