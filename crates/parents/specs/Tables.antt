-- A device's parent, on tables. Assumes nothing.
use Rattle.std.specs.Prelude.{ℕ, ◌<◌, ◌≡◌, Result, Option, List}
use Rattle.refusal.specs.Outcome.{Outcome}
use Rattle.tables.specs.Rows.{EntryRow, Rows}
use Rattle.refusal.specs.Refusal.{fault_outcome}
use Rattle.refusal.specs.declared.Fault.{Fault}
use Rattle.tables.specs.declared.Tables.{Tables}
use Rattle.tables.specs.Tables.{InOrder}
use Rattle.fabric.specs.Tables.{rows_with}

-- In tables in order, for a place that a key has room for, it is what f says of their rows. In any others it is free, but that it is a fault where it is refused.
pub record ParentIs (tables : Tables) (p : ℕ) (f : Rows → Outcome (Option ℕ)) (r : Result (Option ℕ) Fault) : Type 0 where
  pub is : InOrder tables → p < 65536 → (es : List EntryRow) → fault_outcome r ≡ f (rows_with es tables)
