-- What opening a text answers: the rows that it loads to, with the number of all tunnels, or the refusal that the program prints. Assumes nothing.
use Rattle.std.specs.Prelude.{ℕ, ◌≡◌, List, Result, Ok, Err}
use Rattle.refusal.specs.Outcome.{Outcome, value, bind}
use Rattle.refusal.specs.Refusal.{refused_by, outcome}
use Rattle.refusal.specs.declared.Refusal.{Refusal}
use Rattle.tables.specs.Rows.{Rows}
use Rattle.report.specs.Report.{answers_of, total_of}
use Rattle.program.specs.Program.{rows_in}
use Rattle.program.specs.declared.Opened.{Opened}

-- rows, and the tunnels of all adapters, each of which was tried
pub record Found : Type 0 where
  pub rows : Rows
  pub tunnels : ℕ

unfoldable pub found_in : Outcome Rows → Outcome Found
found_in o = bind o (λ x. bind (answers_of x x.adapters) (λ wss. value (record { rows = x; tunnels = total_of wss })))

unfoldable pub open_of : List ℕ → Outcome Found
open_of t = found_in (rows_in t)

-- document 01's number and values for what is answered, of what a survey loads to; where it is refused that is free
unfoldable pub found_by : Outcome Rows → Result ℕ Refusal → Outcome Found
found_by o (Ok n) = bind o (λ x. value (record { rows = x; tunnels = n }))
found_by o (Err r) = refused_by r

-- how many tunnels were found, or the refusal
unfoldable pub tunnels_of : Outcome Found → Outcome ℕ
tunnels_of o = bind o (λ f. value f.tunnels)

-- the whole outcome of the call
pub record Opens (t : List ℕ) (o : Opened) : Type 0 where
  -- the answer alone: a number is answered only where there are rows
  pub says : outcome o.answer ≡ tunnels_of (open_of t)
  pub answers : found_by o.loaded o.answer ≡ open_of t
