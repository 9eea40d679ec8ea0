-- The report's parts on tables: how many tunnels there are in all, and the lines of one adapter. Assumes nothing.
use Rattle.std.specs.Prelude.{ℕ, zero, suc, ◌*◌, ◌≤◌, ◌≡◌, Bool, true, false, List, [], ◌∷◌, ◌++◌, length, drop, Result, Ok, Err}
use Rattle.refusal.specs.Outcome.{Outcome, refused, value, bind}
use Rattle.adapter.specs.Adapter.{AdapterRow}
use Rattle.tables.specs.Rows.{Rows}
use Rattle.refusal.specs.Refusal.{refused_by, outcome, IsMet}
use Rattle.refusal.specs.declared.Refusal.{Refusal}
use Rattle.print.specs.Print.{capped}
use Rattle.printed.specs.Printed.{lines_of, in_room}
use Rattle.report.specs.Report.{answer_room, answer_of, answers_of, total_of}
use Rattle.refusal.specs.declared.Refusal.TheVariants as refusal
use Rattle.tables.specs.declared.Tables.{Tables}
use Rattle.tables.specs.Tables.{Fits, Tabled, rows_of}

-- In tables in order it is the number of all tunnels, or the first refusal. Larger tables are not looked at: 0. In any others it is free, but by what it is refused, and that there are no more tunnels than answers have words.
pub record Tries (tables : Tables) (r : Result ℕ Refusal) : Type 0 where
  pub answers : Fits tables → Tabled tables → outcome r ≡ bind (answers_of (rows_of tables) (rows_of tables).adapters) (λ wss. value (total_of wss))
  pub larger : (Fits tables → ⊥) → r ≡ Ok 0
  pub few : (n : ℕ) → r ≡ Ok n → n ≤ answer_room * length tables.adapters.now
  -- on any tables, it is refused by a fault, 14 or 2
  pub met : (m : Refusal) → r ≡ Err m → IsMet m

-- the lines of the adapter at an index; none past the last
unfoldable pub page_by : Rows → ℕ → List AdapterRow → Outcome (List ℕ)
page_by x k [] = value []
page_by x zero (y ∷ ys) = bind (answer_of x y) (λ ws. value (lines_of ws))
page_by x (suc k) (y ∷ ys) = page_by x k ys

unfoldable pub page_at : Rows → ℕ → Outcome (List ℕ)
page_at x k = page_by x k x.adapters

unfoldable pub page_outcome : Result (Result ℕ Refusal) Refusal → Outcome ℕ
page_outcome (Ok r) = outcome r
page_outcome (Err r) = refused_by r

-- the output as it was, but where a page is answered
unfoldable pub output_by : Outcome ℕ → Outcome (List ℕ) → List ℕ → List ℕ
output_by (refused n vs) s old = old
output_by (value n) (refused m us) old = old
output_by (value n) (value s) old = s ++ drop (length s) old

unfoldable pub is_page : Result (Result ℕ Refusal) Refusal → Bool
is_page (Ok (Ok n)) = true
is_page (Ok (Err r)) = false
is_page (Err r) = false

-- In tables in order it is the adapter's page. Larger tables are not looked at: an empty one. In any others it is free, but by what it is refused, that there is room for a page that is answered, and that no other byte is changed.
pub record Paged (tables : Tables) (k : ℕ) (output : List ℕ) (r : Result (Result ℕ Refusal) Refusal) (output' : List ℕ) : Type 0 where
  pub answers : Fits tables → Tabled tables → page_outcome r ≡ bind (page_at (rows_of tables) k) (in_room (length output))
  pub writes : Fits tables → Tabled tables → output' ≡ output_by (page_outcome r) (page_at (rows_of tables) k) output
  pub larger : (Fits tables → ⊥) → r ≡ Ok (Ok 0)
  -- the page itself is refused for want of room alone, on any tables
  pub wants : (m : Refusal) → r ≡ Ok (Err m) → (n : ℕ) × (m ≡ refusal.Short n)
  -- 2 for the page's bytes, and 2 that an answer of more than 16,384 words is refused with, are told apart
  pub short : Fits tables → Tabled tables → (m : Refusal) → r ≡ Ok (Err m) → (s : List ℕ) × (page_at (rows_of tables) k ≡ value s) × (m ≡ refusal.Short (capped (length s)))
  pub refuses : Fits tables → Tabled tables → (m : Refusal) → r ≡ Err m → page_at (rows_of tables) k ≡ refused_by m
  pub met : (m : Refusal) → r ≡ Err m → IsMet m
  -- past the last adapter
  pub past : length tables.adapters.now ≤ k → r ≡ Ok (Ok 0)
  pub kept : is_page r ≡ false → output' ≡ output
  pub within : (n : ℕ) → r ≡ Ok (Ok n) → n ≤ length output
  pub tail : (n : ℕ) → r ≡ Ok (Ok n) → drop n output' ≡ drop n output
  pub long : length output' ≡ length output
