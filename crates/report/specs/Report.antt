-- Document 01, the program: each adapter of a loaded survey is tried in order, with 16,384 words for each answer, and then all is printed. Assumes nothing.
use Rattle.std.specs.Prelude.{ℕ, ◌+◌, cond, List, [], ◌∷◌, ◌++◌, ltb, length, Option, None, Some}
use Rattle.refusal.specs.Outcome.{Outcome, refused, value, bind}
use Rattle.adapter.specs.Adapter.{AdapterRow}
use Rattle.tables.specs.Rows.{Rows}
use Rattle.tunnel.specs.Tunnels.{Tunnel}
use Rattle.tunnel.specs.Words.{tunnels_words}
use Rattle.discovery.specs.Answers.{discover_at}
use Rattle.printed.specs.Printed.{lines_of, tunnels_in, total_line}

abbrev pub answer_room : ℕ
answer_room = 16384

-- an adapter's result words; absent and an empty list have none
unfoldable pub words_by : Option (List Tunnel) → Outcome (List ℕ)
words_by None = value []
words_by (Some ts) = cond (ltb answer_room (length (tunnels_words ts))) (refused 2 (length (tunnels_words ts) ∷ [])) (value (tunnels_words ts))

unfoldable pub answer_of : Rows → AdapterRow → Outcome (List ℕ)
answer_of x y = bind (discover_at x y.device y.number) words_by

-- each adapter in order; the first refusal is the program's
unfoldable pub answers_of : Rows → List AdapterRow → Outcome (List (List ℕ))
answers_of x [] = value []
answers_of x (y ∷ ys) = bind (answer_of x y) (λ ws. bind (answers_of x ys) (λ wss. value (ws ∷ wss)))

unfoldable pub total_of : List (List ℕ) → ℕ
total_of [] = 0
total_of (ws ∷ wss) = tunnels_in ws + total_of wss

unfoldable pub pages_of : List (List ℕ) → List ℕ
pages_of [] = []
pages_of (ws ∷ wss) = lines_of ws ++ pages_of wss

-- nothing is printed before all adapters were tried
unfoldable pub report_of : Rows → Outcome (List ℕ)
report_of x = bind (answers_of x x.adapters) (λ wss. value (total_line (total_of wss) ++ pages_of wss))
