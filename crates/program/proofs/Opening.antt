-- Laws of opening a text: what a part of it answers is what the whole answers. Assumes nothing.
use Rattle.std.specs.Prelude.{Err, Ok, Result}
use Rattle.std.specs.Result.{result_unwrap_or}
use Prim.Native.Nat.{ℕ, ◌≤◌}
use native.Mathlib.Omega.{arith}
use mathlib.Core.Path.{◌≡◌, refl, sym, ap, ◌∙◌}
use mathlib.Core.List.{List}
use lib.ListN.{length, take}
use Rattle.refusal.specs.Outcome.{Outcome, refused, value, bind}
use Rattle.refusal.specs.Refusal.{refused_by, outcome}
use Rattle.refusal.specs.declared.Refusal.{Refusal}
use Rattle.refusal.proofs.Laws.{refused_bind, numbered, not_refused, err_no_ok}
use Rattle.description.specs.Rules.{read_descriptions}
use Rattle.metadata.specs.Ours.{ours}
use Rattle.survey.specs.Devices.{read_survey}
use Rattle.tables.specs.Rows.{Rows}
use Rattle.tables.specs.Tables.{Fits, Tabled, rows_of}
use Rattle.tables.specs.declared.Tables.{Tables}
use Rattle.load.specs.Loading.{load_from, loaded}
use Rattle.load.specs.Answers.{tables_rows}
use Rattle.load.proofs.Result.{tables_ended}
use Rattle.walks.proofs.Laws.{nothing, refused_value}
use Rattle.report.specs.Report.{answers_of, total_of}
use Rattle.report.specs.Tables.{Tries}
use Rattle.text.specs.Text.{survey_of, TextDone}
use Rattle.program.specs.Program.{surveyed, rows_in}
use Rattle.program.specs.Opened.{Found, found_in, open_of, found_by, tunnels_of, Opens}
use Rattle.program.specs.Work.{Answered, Answers}
use Rattle.program.specs.declared.Opened.{Opened}
use Rattle.program.proofs.Reading.{text_refused, text_words}

-- ---- a survey that was loaded

-- what refuses finds no tunnels
refused_says : (m : Refusal) (f : Outcome Found) → refused_by m ≡ f → refused_by m ≡ tunnels_of f
unfolding tunnels_of
refused_says m f h = sym (refused_bind m (λ (x : Found). value x.tunnels)) ∙ ap (λ (y : Outcome Found). bind y (λ x. value x.tunnels)) h

-- loading was refused
pub not_loaded : (q : Result Tables Refusal) (o : Outcome Rows) → tables_rows q ≡ o → (m : Refusal) → q ≡ Err m → Answered o (Err m)
unfolding found_by found_in
not_loaded q o is m e =
    let h = tables_ended q o is (λ x. bind (answers_of x x.adapters) (λ wss. value (record { rows = x; tunnels = total_of wss }))) m e in
    record { says = refused_says m (found_in o) h; finds = h }

-- what trying answers, of the rows that were tried
tried : (x : Rows) (o : Outcome (List (List ℕ))) (q : Result ℕ Refusal) → outcome q ≡ bind o (λ wss. value (total_of wss)) → found_by (value x) q ≡ bind o (λ wss. value (record { rows = x; tunnels = total_of wss }))
unfolding found_by bind nothing
tried x (refused k vs) (Ok n) h = absurd (refused_value (sym h))
tried x (value wss) (Ok n) h = let z : n ≡ total_of wss = cc in ap (λ i. value (record { rows = x; tunnels = i })) z
tried x (refused k vs) (Err m) h = sym (refused_bind m (nothing {A = ℕ} {B = Found})) ∙ ap (λ (y : Outcome ℕ). bind y (nothing {A = ℕ} {B = Found})) h
tried x (value wss) (Err m) h = absurd (not_refused m (total_of wss) h)

tried_says : (x : Rows) (o : Outcome (List (List ℕ))) → bind o (λ wss. value (total_of wss)) ≡ tunnels_of (bind o (λ wss. value (record { rows = x; tunnels = total_of wss })))
unfolding tunnels_of bind
tried_says x (refused k vs) = refl
tried_says x (value wss) = refl

pub all_tried : (q : Result Tables Refusal) (o : Outcome Rows) → tables_rows q ≡ o → (t : Tables) → q ≡ Ok t → Fits t × Tabled t → (r : Result ℕ Refusal) → Tries t r → Answered o r
unfolding tables_rows found_in bind
all_tried q o is t e (f, k) r w =
    let loaded-is : value (rows_of t) ≡ o = sym (ap tables_rows e) ∙ is in
    let answers = answers_of (rows_of t) (rows_of t).adapters in
    record {
      says = w.answers f k ∙ tried_says (rows_of t) answers ∙ ap (λ y. tunnels_of (found_in y)) loaded-is;
      finds = ap (λ y. found_by y r) (sym loaded-is) ∙ tried (rows_of t) answers r (w.answers f k) ∙ ap found_in loaded-is;
    }

-- ---- a text

pub read_refused : (o : Outcome Rows) (q : Refusal) (read : Result ℕ Refusal) → read ≡ Err q → Answers read o (Err q)
read_refused o q read e = record { refuses = λ m f. sym e ∙ f; opens = λ m f. absurd (err_no_ok m q (sym e ∙ f)) }

pub read_words : (read : Result ℕ Refusal) (o : Outcome Rows) (r : Result ℕ Refusal) (n : ℕ) → read ≡ Ok n → Answered o r → Answers read o r
read_words read o r n e h = record { refuses = λ m f. absurd (err_no_ok n m (sym f ∙ e)); opens = λ m f. h }

-- a survey's, under our descriptions
surveyed_so : (t s : List ℕ) → read_descriptions t ≡ value ours → loaded t s ≡ surveyed s
unfolding loaded surveyed bind
surveyed_so t s our = ap (λ o. bind o (λ ds. bind (read_survey s) (λ devices. load_from ds 0 devices))) our

-- a refusal, at another type
again : (q : Refusal) (m : ℕ) (vs : List ℕ) → refused_by {A = ℕ} q ≡ refused m vs → refused_by {A = Found} q ≡ refused m vs
unfolding bind nothing
again q m vs f = sym (refused_bind q (nothing {A = ℕ} {B = Found})) ∙ ap (λ (y : Outcome ℕ). bind y (nothing {A = ℕ} {B = Found})) f

module _ (t : List ℕ) where
  opens_words : (ws : List ℕ) → survey_of t ≡ value ws → found_in (surveyed ws) ≡ open_of t
  unfolding open_of rows_in bind
  opens_words ws e = sym (ap (λ o. found_in (bind o surveyed)) e)

  opens_refused : (n : ℕ) (vs : List ℕ) → survey_of t ≡ refused n vs → refused n vs ≡ open_of t
  unfolding open_of rows_in found_in bind
  opens_refused n vs e = sym (ap (λ o. found_in (bind o surveyed)) e)

module _ (t output : List ℕ) (long : length output ≡ 16384) (read : Result ℕ Refusal) (output' : List ℕ) (d : TextDone t output read output') where
  pub few_words : result_unwrap_or read 0 ≤ 16384
  few_words = go read refl
    where
      go : (q : Result ℕ Refusal) → read ≡ q → result_unwrap_or q 0 ≤ 16384
      go (Ok n) e = (text_words t output long read output' d n e).1
      go (Err q) e = omega arith

  pub opens_read : (ds : List ℕ) (n : ℕ) (o : Opened) → read_descriptions ds ≡ value ours → n ≡ result_unwrap_or read 0 → o.loaded ≡ loaded ds (take n output') → Answers read o.loaded o.answer → Opens t o
  unfolding found_by
  opens_read ds n o our size same h = go read refl (same ∙ ap (λ k. loaded ds (take k output')) size) h
    where
      go : (q : Result ℕ Refusal) → read ≡ q → o.loaded ≡ loaded ds (take (result_unwrap_or q 0) output') → Answers q o.loaded o.answer → Opens t o
      go (Ok n) e same h =
          let found = ap found_in (same ∙ surveyed_so ds (take n output') our) ∙ opens_words t (take n output') (text_words t output long read output' d n e).0 in
          let a = h.opens n refl in
          record { says = a.says ∙ ap tunnels_of found; answers = a.finds ∙ found }
      go (Err q) e same h =
          let x = numbered ℕ q in
          let found = again q x.0 x.1 x.2 ∙ opens_refused t x.0 x.1 (text_refused t output long read output' d x.0 x.1 (ap outcome e ∙ x.2)) in
          record { says = ap outcome (h.refuses q refl) ∙ refused_says q (open_of t) found; answers = ap (found_by o.loaded) (h.refuses q refl) ∙ found }
