-- For the contracts of private functions only. No promise to a caller rests on these. Assumes nothing.
use Rattle.std.specs.Prelude.{ℕ, ◌≡◌, Err, Ok, Result}
use Rattle.refusal.specs.Outcome.{Outcome}
use Rattle.refusal.specs.Refusal.{outcome}
use Rattle.refusal.specs.declared.Refusal.{Refusal}
use Rattle.tables.specs.Rows.{Rows}
use Rattle.program.specs.Opened.{found_in, found_by, tunnels_of}

-- an answer for what a survey loads to: by itself, and with the rows
pub record Answered (o : Outcome Rows) (r : Result ℕ Refusal) : Type 0 where
  pub says : outcome r ≡ tunnels_of (found_in o)
  pub finds : found_by o r ≡ found_in o

-- by what reading answers
pub record Answers (read : Result ℕ Refusal) (o : Outcome Rows) (r : Result ℕ Refusal) : Type 0 where
  pub refuses : (m : Refusal) → read ≡ Err m → r ≡ Err m
  pub opens : (n : ℕ) → read ≡ Ok n → Answered o r
