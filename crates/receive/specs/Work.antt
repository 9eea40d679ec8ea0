-- For the contracts of private functions only. No promise to a caller rests on these. Assumes nothing.
use Rattle.std.specs.Prelude.{ℕ, ◌+◌, ◌-◌, ◌≤◌, ◌<◌, ◌≡◌, cond, List, eqb, length, set, Option, None as absent, Some, Result, Ok, Err}
use Rattle.refusal.specs.Outcome.{Outcome, value, bind}
use Rattle.tables.specs.Rows.{DeviceRow, Rows, device_in}
use Rattle.refusal.specs.Refusal.{refused_by, of_walk}
use Rattle.receive.specs.Receive.{at, Lane, Lane.lane, Lane.passed, Lane.dropped, lane_of, Receive, Receive.nothing, among_hops, or_next}
use Rattle.receive.specs.Tables.{Said, said_of, received_outcome, walk_said}
use Rattle.receive.specs.declared.LaneFound.{LaneFound}
use Rattle.receive.specs.declared.LaneFound.TheVariants as found
use Rattle.receive.specs.declared.Received.TheVariants as answer
use Rattle.refusal.specs.declared.WalkError.{WalkError}
use Rattle.receive.specs.declared.Step.{Step}
use Rattle.receive.specs.declared.Step.TheVariants as step
use Rattle.tables.specs.declared.Tables.{Tables}
use Rattle.tables.specs.Tables.{InOrder, Tabled, rows_of}

unfoldable pub lane_outcome : Result LaneFound WalkError → Outcome Lane
lane_outcome (Ok (found.At q n lo hi)) = value (lane q n lo hi)
lane_outcome (Ok found.Passed) = value passed
lane_outcome (Ok found.Dropped) = value dropped
lane_outcome (Err r) = refused_by (of_walk r)

-- in tables in order it is what f says of their rows; in any others it is free
pub record LaneIs (tables : Tables) (f : Rows → Outcome Lane) (r : Result LaneFound WalkError) : Type 0 where
  pub is : InOrder tables → lane_outcome r ≡ f (rows_of tables)

-- of the device at place p, if there is one
unfoldable pub lane_by : Rows → ℕ → Option DeviceRow → Outcome Lane
lane_by x p absent = value passed
lane_by x p (Some d) = lane_of x p d

unfoldable pub lane_at : Rows → ℕ → Outcome Lane
lane_at x p = lane_by x p (device_in x.devices p)

abbrev pub said : Outcome Receive → Outcome Said
said o = bind o (λ v. value (said_of v))

-- HopIDs h to hi of adapter n of the router at place q
unfoldable pub up_to : Rows → ℕ → ℕ → ℕ → ℕ → ℕ → Outcome Receive
up_to x ring q n h hi = among_hops x ring q n h (hi + 1 - h)

-- For any ring: the HopIDs before the one to look at next give nothing; none is left to give anything; or what refuses it is the answer, whatever comes after. A path that is passed is the answer for the HopID that it leaves by, which isn't the ring. One that fits is the answer for the ring.
unfoldable pub Stepped : Rows → ℕ → ℕ → ℕ → ℕ → ℕ → Result Step WalkError → Type 0
Stepped x ring q n h hi (Ok (step.On k)) = (v : ℕ) → up_to x v q n h hi ≡ up_to x v q n k hi
Stepped x ring q n h hi (Ok (step.Past k o)) = (v : ℕ) (after : Outcome Receive) → said (bind (up_to x v q n h hi) (or_next after)) ≡ cond (eqb o v) (walk_said x v (at q n k)) (said (bind (up_to x v q n (k + 1) hi) (or_next after)))
Stepped x ring q n h hi (Ok step.Over) = (v : ℕ) → up_to x v q n h hi ≡ value nothing
Stepped x ring q n h hi (Ok (step.Fits p)) = (after : Outcome Receive) → received_outcome ring (Ok (answer.Path p)) ≡ said (bind (up_to x ring q n h hi) (or_next after))
Stepped x ring q n h hi (Err r) = (v : ℕ) (after : Outcome Receive) → refused_by (of_walk r) ≡ said (bind (up_to x v q n h hi) (or_next after))

unfoldable pub end_hops : Result Step WalkError → ℕ
end_hops (Ok (step.On k)) = 0
end_hops (Ok (step.Past k o)) = 0
end_hops (Ok step.Over) = 0
end_hops (Ok (step.Fits p)) = p.hops
end_hops (Err r) = 0

-- so it is in tables in order; in any others the HopID to look at next is further on all the same
pub record Looked (tables : Tables) (ring q n h hi : ℕ) (r : Result Step WalkError) : Type 0 where
  pub stepped : Tabled tables → q < 65536 → Stepped (rows_of tables) ring q n h hi r
  pub further : (k : ℕ) → r ≡ Ok (step.On k) → (h < k) × (k ≤ 65536)
  pub passed : (k o : ℕ) → r ≡ Ok (step.Past k o) → (h ≤ k) × (k < 65536) × (o < 65536) × (o ≡ ring → ⊥)
  pub few : end_hops r ≤ length tables.entries.now

-- a note is put, if there is room
pub record PutNote (word noted : ℕ) (old : List ℕ) (r : ℕ) (new : List ℕ) : Type 0 where
  pub put : noted < length old → (r ≡ noted + 1) × (new ≡ set old noted word)
  pub full : length old ≤ noted → (r ≡ noted) × (new ≡ old)
