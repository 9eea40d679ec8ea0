-- A tunnel by what it takes to write it: where its paths start, and how many words it has. Assumes nothing.
use Rattle.std.specs.Prelude.{ℕ, ◌≤◌, ◌<◌, ◌≡◌, Bool, List, [], ◌∷◌, map, length, Option, None, Some, Result, Ok, Err}
use Rattle.refusal.specs.Outcome.{Outcome, value, bind}
use Rattle.usb4.specs.declared.TunnelType.{TunnelType}
use Rattle.tables.specs.Rows.{EntryRow, Rows}
use Rattle.refusal.specs.Refusal.{refused_by, of_walk}
use Rattle.refusal.specs.declared.WalkError.{WalkError}
use Rattle.walk.specs.Rule.{stand_of}
use Rattle.path.specs.Names.{name_number}
use Rattle.receive.specs.Receive.{at}
use Rattle.receive.specs.Tables.{Receives}
use Rattle.receive.specs.declared.Received.{Received}
use Rattle.tunnel.specs.Tunnels.{Path, Tunnel, one_dma}
use Rattle.tunnel.specs.Words.{closed, tunnel_words}
use Rattle.tunnel.specs.declared.Start.{Start as Started}
use Rattle.tunnel.specs.declared.Starts.{Starts}
use Rattle.tunnel.specs.declared.Starts.TheVariants as starts
use Rattle.tunnel.specs.declared.Plan.{Plan as Planned}
use Rattle.tables.specs.declared.Stand.{Stand}
use Rattle.tables.specs.declared.Tables.{Tables}
use Rattle.tables.specs.Tables.{Sized, Tabled, rows_of}

-- where a path starts, and its name, by document 01's numbers
pub record Start : Type 0 where
  pub stand : Stand
  pub name : ℕ

pub record Plan : Type 0 where
  pub type : TunnelType
  pub closed : Bool
  pub words : ℕ
  pub starts : List Start

-- a path has a hop
unfoldable pub start_of : List EntryRow → Stand
start_of [] = at 0 0 0
start_of (h ∷ hs) = stand_of h

unfoldable pub from_of : Path → Start
from_of p = record { stand = start_of p.hops; name = p.name }

unfoldable pub plan_of : Tunnel → Plan
plan_of t = record { type = t.type; closed = closed t; words = length (tunnel_words t); starts = map from_of t.paths }

unfoldable pub plan_if : Option Tunnel → Option Plan
plan_if None = None
plan_if (Some t) = Some (plan_of t)

-- a start that is answered, with the number of its name
abbrev pub start_as : Started → Start
start_as s = record { stand = s.stand; name = name_number s.name }

abbrev pub starts_as : Starts → List Start
starts_as (starts.One a) = start_as a ∷ []
starts_as (starts.Two a b) = start_as a ∷ start_as b ∷ []
starts_as (starts.Three a b d) = start_as a ∷ start_as b ∷ start_as d ∷ []

-- what a call answers of a tunnel
abbrev pub planned_as : TunnelType → Bool → ℕ → Starts → Planned
planned_as t c w l = record { kind = t; closed = c; words = w; starts = l }

-- document 01's number and values for what is answered
unfoldable pub planned_outcome : Result (Option Planned) WalkError → Outcome (Option Plan)
planned_outcome (Ok (Some p)) = value (Some (record { type = p.kind; closed = p.closed; words = p.words; starts = starts_as p.starts }))
planned_outcome (Ok None) = value None
planned_outcome (Err r) = refused_by (of_walk r)

unfoldable pub words_by : Result (Option Planned) WalkError → ℕ
words_by (Ok (Some p)) = p.words
words_by (Ok None) = 0
words_by (Err r) = 0

-- For a place that a key has room for, in tables in order and no larger than a survey's, it is the plan of the tunnel that f says of their rows. Else it is free, but that it has at most 1,048,576 words.
pub record Plans (tables : Tables) (p : ℕ) (f : Rows → Outcome (Option Tunnel)) (r : Result (Option Planned) WalkError) : Type 0 where
  pub answers : Sized tables → Tabled tables → p < 65536 → planned_outcome r ≡ bind (f (rows_of tables)) (λ o. value (plan_if o))
  pub few : words_by r ≤ 1048576

-- The plan of a ring's tunnel by what a search for its receive path came to. For anything else that is handed in it is free, but for the same bound.
pub record RingPlans (tables : Tables) (p a ring : ℕ) (received : Result Received WalkError) (r : Result (Option Planned) WalkError) : Type 0 where
  pub plans : Receives tables ring received → Plans tables p (λ x. one_dma x p a ring) r
  pub few : words_by r ≤ 1048576
