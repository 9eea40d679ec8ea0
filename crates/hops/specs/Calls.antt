-- The call that fills hop records: as the single walk, but that 2 gives the records needed; and the rule of every single walk. Assumes nothing.
use Rattle.std.specs.Prelude.{ℕ, ◌≡◌, false, List, length, Result, Option}
use Rattle.refusal.specs.Outcome.{Outcome, value, bind}
use Rattle.adapter.specs.Adapter.{AdapterRow}
use Rattle.tables.specs.Rows.{Rows}
use Rattle.load.specs.Loading.{loaded}
use Rattle.load.specs.Answers.{asked_adapter}
use Rattle.walk.specs.Rule.{in_room, WalkRule}
use Rattle.walks.specs.Calls.{path_answer}
use Rattle.hops.specs.Records.{records_needed, with_records, records_by}
use Rattle.hops.specs.declared.Hop.{Hop}
use Rattle.refusal.specs.Refusal.{outcome, is_given}
use Rattle.refusal.specs.declared.Refusal.{Refusal}
use Rattle.tables.specs.declared.Stand.{Stand}

unfoldable pub hops_answer : List ℕ → List ℕ → Stand → ℕ → Outcome (Option ℕ)
hops_answer t v s room = bind (path_answer t v s) (in_room records_needed room)

-- the whole outcome of the call
pub record HopsDone (t v : List ℕ) (s : Stand) (records : List Hop) (r : Result (Option ℕ) Refusal) (records' : List Hop) : Type 0 where
  pub answers : outcome r ≡ hops_answer t v s (length records)
  pub writes : records' ≡ records_by (path_answer t v s) records
  -- what isn't a path is not written
  pub kept : is_given r ≡ false → records' ≡ records
  -- every accepted survey and every start in it
  pub walks : (x : Rows) (y : AdapterRow) → loaded t v ≡ value x → asked_adapter x s.place s.adapter ≡ value y
      → WalkRule x s records_needed (length records) (λ hs. records' ≡ with_records hs records) (outcome r)
