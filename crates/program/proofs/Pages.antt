-- Every page is written whole: none is refused once all adapters were tried, and a buffer of 43 bytes for each of 16,384 words has room for any. Assumes nothing.
use Prim.Native.Nat.{ℕ, zero, suc, ◌≤◌, ◌<◌}
use native.Mathlib.Omega.{arith}
use mathlib.Core.Path.{◌≡◌, sym, ap, ◌∙◌}
use mathlib.Core.List.{List, [], ◌∷◌}
use Rattle.std.specs.Prelude.{Option, None, Some, Result, Ok, Err}
use borrow.Author.Tests.{ltb-false}
use lib.Dec.{ltb}
use lib.ListN.{length, take, drop}
use lib.Seq.{take-append_seam}
use Rattle.refusal.specs.Outcome.{value, bind}
use Rattle.adapter.specs.Adapter.{AdapterRow}
use Rattle.tables.specs.Rows.{Rows}
use Rattle.load.proofs.Order.{Holds, holds_value, holds_refused, holds_bind, holds_any, holds_cond}
use Rattle.refusal.proofs.Laws.{outcome_ok, not_refused}
use Rattle.tunnel.specs.Tunnels.{Tunnel}
use Rattle.tunnel.specs.Words.{tunnels_words}
use Rattle.discovery.specs.Answers.{discover_at}
use Rattle.print.specs.Print.{most}
use Rattle.printed.specs.Printed.{in_room}
use Rattle.printed.proofs.Room.{lines_short, fits_room}
use Rattle.report.specs.Report.{words_by, answer_of}
use Rattle.report.specs.Tables.{page_by, page_at, page_outcome, output_by, Paged}
use Rattle.refusal.specs.declared.Refusal.{Refusal}
use Rattle.load.specs.Answers.{tables_rows}
use Rattle.program.specs.Opened.{found_by, open_of, Opens}
use Rattle.program.specs.declared.Opened.{Opened}
use Rattle.tables.specs.declared.Tables.{Tables}
use Rattle.tables.specs.Tables.{Fits, Tabled, rows_of}

few_words : (o : Option (List Tunnel)) → Holds (λ ws. length ws ≤ 16384) (words_by o)
unfolding words_by
few_words None = holds_value (omega arith)
few_words (Some ts) = holds_cond (ltb 16384 (length (tunnels_words ts))) _ _ (λ e. holds_refused) (λ e. holds_value (ltb-false 16384 (length (tunnels_words ts)) e))

short_page : (x : Rows) (k : ℕ) (ys : List AdapterRow) → Holds (λ s. length s ≤ 704512) (page_by x k ys)
unfolding page_by answer_of
short_page x k [] = holds_value (omega arith)
short_page x zero (y ∷ ys) =
    holds_bind (answer_of x y) _ (holds_bind (discover_at x y.device y.number) words_by holds_any (λ o h. few_words o))
    (λ ws l. holds_value (omega (arith, lines_short ws)))
short_page x (suc k) (y ∷ ys) = short_page x k ys

-- of tables in order, no larger than a survey's
pub page_written : (tables : Tables) (k : ℕ) (out : List ℕ) (r : Result (Result ℕ Refusal) Refusal) (out' : List ℕ) → Paged tables k out r out' → Fits tables → Tabled tables → 704512 ≤ length out → length out < most
    → (s : List ℕ) → page_at (rows_of tables) k ≡ value s → (r ≡ Ok (Ok (length s))) × (take (length s) out' ≡ s)
unfolding page_at page_outcome output_by bind
page_written tables k out r out' w f es l m s e =
    let x = rows_of tables in
    let q : page_outcome r ≡ value (length s) = w.answers f es ∙ ap (λ o. bind o (in_room (length out))) e ∙ fits_room s (length out) (omega (arith, (short_page x k x.adapters).by s e)) m in
    (bytes r q, ap (take (length s)) (w.writes f es ∙ ap (λ o. output_by (page_outcome r) o out) e ∙ ap (λ o. output_by o (value s) out) q) ∙ take-append_seam s (drop (length s) out))
  where
    bytes : (p : Result (Result ℕ Refusal) Refusal) → page_outcome p ≡ value (length s) → p ≡ Ok (Ok (length s))
    bytes (Ok q) g = ap Ok (outcome_ok q (length s) g)
    bytes (Err q) g = absurd (not_refused q (length s) g)

-- such are the tables of a text that was opened, and their rows are the text's
pub opened_rows : {t : List ℕ} {o : Opened} → Opens t o → (n : ℕ) → o.answer ≡ Ok n → (tables : Tables) → tables_rows (Ok tables) ≡ o.loaded → open_of t ≡ value (record { rows = rows_of tables; tunnels = n })
unfolding found_by tables_rows bind
opened_rows {t} {o} h n e tables is = sym h.answers ∙ ap (found_by o.loaded) e ∙ ap (λ y. found_by y (Ok n)) (sym is)
