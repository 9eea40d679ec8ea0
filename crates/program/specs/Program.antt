-- Document 01, the program: what it prints for a text. Assumes nothing.
use Rattle.std.specs.Prelude.{ℕ, List}
use Rattle.refusal.specs.Outcome.{Outcome, refused, value, bind}
use Rattle.metadata.specs.Ours.{ours}
use Rattle.survey.specs.Devices.{read_survey}
use Rattle.tables.specs.Rows.{Rows}
use Rattle.load.specs.Loading.{load_from}
use Rattle.text.specs.Text.{survey_of}
use Rattle.printed.specs.Printed.{refused_line}
use Rattle.report.specs.Report.{report_of}

-- a survey's rows under our descriptions
unfoldable pub surveyed : List ℕ → Outcome Rows
surveyed s = bind (read_survey s) (λ ds. load_from ours 0 ds)

-- a text's: length, then 1, then 4, then loading
unfoldable pub rows_in : List ℕ → Outcome Rows
rows_in t = bind (survey_of t) surveyed

-- a refusal is printed by its number alone
unfoldable pub said : Outcome (List ℕ) → List ℕ
said (refused n vs) = refused_line n
said (value s) = s

-- the bytes that the program prints
unfoldable pub program_of : List ℕ → List ℕ
program_of t = said (bind (rows_in t) report_of)
