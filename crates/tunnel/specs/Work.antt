-- For the contracts of private functions only. No promise to a caller rests on these. Assumes nothing.
use Rattle.std.specs.Prelude.{ℕ, ◌+◌, ◌*◌, ◌≤◌, ◌<◌, ◌≡◌, Bool, false, ◌&&◌, List, [], ◌∷◌, eqb, length, Option, None, Some, Result}
use Rattle.refusal.specs.Outcome.{Outcome, value, bind}
use Rattle.usb4.specs.declared.TunnelType.{TunnelType}
use Rattle.usb4.specs.declared.TunnelType.TheVariants as tunnel_type
use Rattle.tables.specs.Rows.{EntryRow, Rows}
use Rattle.walk.specs.Tables.{last_of}
use Rattle.path.specs.declared.PathName.{PathName}
use Rattle.path.specs.declared.TheConstants.PathName as name
use Rattle.receive.specs.Receive.{at, receive}
use Rattle.receive.specs.Tables.{Said, Said.path, Said.none as nothing, Said.dropped, said_of}
use Rattle.tunnel.specs.Tunnels.{leaving, needed}
use Rattle.tunnel.specs.Plans.{Plan, starts_as, planned_as, planned_outcome, words_by}
use Rattle.tunnel.specs.declared.Start.{Start as Started}
use Rattle.tunnel.specs.declared.Starts.{Starts}
use Rattle.tunnel.specs.declared.Starts.TheVariants as starts
use Rattle.tunnel.specs.declared.Plan.{Plan as Planned}
use Rattle.refusal.specs.declared.WalkError.{WalkError}
use Rattle.tables.specs.declared.Stand.{Stand}
use Rattle.tables.specs.declared.Tables.{Tables}
use Rattle.tables.specs.Tables.{Sized, Tabled, rows_of}

-- as `Plans`, where f says the plan itself
pub record Draws (tables : Tables) (p : ℕ) (f : Rows → Outcome (Option Plan)) (r : Result (Option Planned) WalkError) : Type 0 where
  pub answers : Sized tables → Tabled tables → p < 65536 → planned_outcome r ≡ f (rows_of tables)
  pub few : words_by r ≤ 1048576

abbrev pub start_by : Stand → PathName → Started
start_by s n = record { stand = s; name = n }

-- a path leaves by adapter a of the device at place p
unfoldable pub leaves_by : List EntryRow → ℕ → ℕ → Bool
leaves_by [] p a = false
leaves_by (h ∷ hs) p a = let l = last_of h hs in eqb l.device p && eqb l.out_adapter a

-- a tunnel with w words before its last path: closed where that leaves by adapter a of the device at place p, at which the first starts
unfoldable pub last_plan : TunnelType → ℕ → ℕ → ℕ → Starts → List EntryRow → Plan
last_plan t w p a l hs = record { type = t; closed = leaves_by hs p a; words = w + (1 + 2 * length hs); starts = starts_as l }

-- the last path walked from s
unfoldable pub finished : Rows → TunnelType → ℕ → ℕ → ℕ → Stand → Starts → Outcome (Option Plan)
finished x t w p a s l = needed x s (λ hs. value (Some (last_plan t w p a l hs)))

-- AUX TX and AUX RX after w words
unfoldable pub auxiliary : Rows → ℕ → ℕ → ℕ → Outcome (Option Plan)
auxiliary x p a w =
    needed x (at p a 8) (λ ts. finished x tunnel_type.DisplayPort (w + (1 + 2 * length ts)) p a (leaving 8 ts) (starts.Three (start_by (at p a 9) name.VIDEO) (start_by (at p a 8) name.AUX_TX) (start_by (leaving 8 ts) name.AUX_RX)))

-- a ring's tunnel of one path
unfoldable pub one_path : ℕ → Started → Planned
one_path w s = planned_as tunnel_type.Dma false w (starts.One s)

unfoldable pub one_plan : ℕ → Stand → ℕ → Plan
one_plan w s n = record { type = tunnel_type.Dma; closed = false; words = w; starts = record { stand = s; name = n } ∷ [] }

-- by what the search for its receive path says: a ring without a DMA TX path, and one with it, from s, and w words before the other
unfoldable pub alone_plan : Said → Option Plan
alone_plan (path u l) = Some (one_plan (1 + (1 + 2 * l.hops)) u 8)
alone_plan nothing = None
alone_plan dropped = None

unfoldable pub with_plan : Stand → ℕ → Said → Option Plan
with_plan s w (path u l) = Some (record {
  type = tunnel_type.Dma;
  closed = eqb l.place s.place && eqb l.adapter s.adapter;
  words = w + (1 + 2 * l.hops);
  starts = record { stand = s; name = 7 } ∷ record { stand = u; name = 8 } ∷ [];
})
with_plan s w nothing = Some (one_plan w s 7)
with_plan s w dropped = None

unfoldable pub ring_by : Rows → ℕ → (Said → Option Plan) → Outcome (Option Plan)
ring_by x ring g = bind (bind (receive x ring) (λ v. value (said_of v))) (λ v. value (g v))
