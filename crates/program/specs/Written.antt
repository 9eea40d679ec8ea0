-- What is written for what opening a text answers: `refused N` alone, or the first line and then the page of each adapter, in order. Assumes nothing.
use Rattle.std.specs.Prelude.{ℕ, ◌<◌, ◌≡◌, length, get_or}
use mathlib.Core.List.{List, [], ◌++◌, flatten}
use Rattle.refusal.specs.Outcome.{Outcome, refused, value}
use Rattle.printed.specs.Printed.{total_line, refused_line}
use Rattle.report.specs.Tables.{page_at}
use Rattle.program.specs.Opened.{Found}

-- every adapter has its page, and none is refused
pub record Pages (f : Found) (s : List ℕ) : Type 0 where
  pub pages : List (List ℕ)
  pub all : length pages ≡ length f.rows.adapters
  pub each : (k : ℕ) → k < length pages → page_at f.rows k ≡ value (get_or pages k [])
  pub bytes : s ≡ total_line f.tunnels ++ flatten pages

unfoldable pub Written : Outcome Found → List ℕ → Type 0
Written (refused n vs) s = s ≡ refused_line n
Written (value f) s = Pages f s
