-- What the calls on one adapter of a survey answer: 3, 4, loading, 14, then 6 only of the call that asks for the field. Assumes nothing.
use Rattle.std.specs.Prelude.{ℕ, List, Option, Result, Ok, Err}
use Rattle.refusal.specs.Outcome.{Outcome, value, bind}
use Rattle.usb4.specs.declared.Speed.{Speed}
use Rattle.state.specs.State.{is_enabled}
use Rattle.adapter.specs.Adapter.{AdapterRow, min_hop}
use Rattle.tables.specs.Rows.{EntryRow, entry_in}
use Rattle.tables.specs.Found.{entry_found}
use Rattle.load.specs.Loading.{loaded}
use Rattle.load.specs.Answers.{asked_adapter}
use Rattle.refusal.specs.Refusal.{refused_by}
use Rattle.adapters.specs.declared.AdapterInfo.{AdapterInfo}
use Rattle.refusal.specs.declared.Refusal.{Refusal}
use Rattle.adapter.specs.declared.EntryOut.{EntryOut}

-- what is said of an adapter that was loaded
unfoldable pub info_of : AdapterRow → AdapterInfo
info_of x = record { kind = x.kind; state = x.state; lane0 = x.lane0; lane1 = x.lane1; min_hop = min_hop x.kind; enabled = is_enabled x.kind x.state }

-- the row of an adapter that is asked for
unfoldable pub row_answer : List ℕ → List ℕ → ℕ → ℕ → Outcome AdapterRow
row_answer t s p a = bind (loaded t s) (λ x. asked_adapter x p a)

-- kind, state, lanes, least HopID, whether it is enabled
unfoldable pub adapter_answer : List ℕ → List ℕ → ℕ → ℕ → Outcome AdapterInfo
adapter_answer t s p a = bind (row_answer t s p a) (λ x. value (info_of x))

-- its link speed, or 6
unfoldable pub speed_answer : List ℕ → List ℕ → ℕ → ℕ → Outcome Speed
speed_answer t s p a = bind (row_answer t s p a) (λ x. x.speed)

-- its largest HopID, or 6
unfoldable pub max_hop_answer : List ℕ → List ℕ → ℕ → ℕ → Outcome (Option ℕ)
max_hop_answer t s p a = bind (row_answer t s p a) (λ x. x.max_hop)

-- the first valid entry for a HopID
unfoldable pub path_answer : List ℕ → List ℕ → ℕ → ℕ → ℕ → Outcome (Option EntryRow)
path_answer t s p a h = bind (loaded t s) (λ x. bind (asked_adapter x p a) (λ y. value (entry_in x.entries p a h)))

-- document 01's number and values for what the call for an entry answers
unfoldable pub path_outcome : ℕ → ℕ → ℕ → Result (Option EntryOut) Refusal → Outcome (Option EntryRow)
path_outcome p a h (Ok e) = value (entry_found p a h e)
path_outcome p a h (Err r) = refused_by r
