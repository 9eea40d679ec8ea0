-- For the contracts of private functions only. No promise to a caller rests on these. Assumes nothing.
use Rattle.std.specs.Prelude.{ℕ, ◌≤◌, ◌≡◌, List, length, take, get_or, Option, unwrap_or, Result, Ok, Err}
use Rattle.refusal.specs.Outcome.{Outcome, value}
use Rattle.tables.specs.Packed.{adapter_word}
use Rattle.refusal.specs.Refusal.{refused_by, IsMet}
use Rattle.refusal.specs.declared.Refusal.{Refusal}
use Rattle.report.specs.Report.{answer_of}
use Rattle.tables.specs.declared.Tables.{Tables}
use Rattle.tables.specs.Tables.{Fits, Tabled, rows_of}

-- how many words an answer has; absent and an empty list have none
unfoldable pub size_of : Result (Option ℕ) Refusal → Result ℕ Refusal
size_of (Ok n) = Ok (unwrap_or n 0)
size_of (Err r) = Err r

unfoldable pub words_outcome : Result ℕ Refusal → List ℕ → Outcome (List ℕ)
words_outcome (Ok n) ws = value (take n ws)
words_outcome (Err r) ws = refused_by r

-- the adapter at index k answers, into words that have the room
pub record Answered (tables : Tables) (k : ℕ) (r : Result ℕ Refusal) (ws : List ℕ) : Type 0 where
  pub answers : Fits tables → Tabled tables → words_outcome r ws ≡ answer_of (rows_of tables) (adapter_word (get_or tables.adapters.now k 0))
  pub within : (n : ℕ) → r ≡ Ok n → n ≤ length ws
  pub met : (m : Refusal) → r ≡ Err m → IsMet m
