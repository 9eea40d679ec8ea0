-- What is written for what opening a text answers is what the program prints. Assumes nothing.
use Prim.Native.Nat.{ℕ, zero, suc, ◌<◌}
use native.Mathlib.Omega.{arith}
use mathlib.Core.Path.{◌≡◌, refl, ◌∙◌, sym, ap, subst}
use mathlib.Core.List.{List, [], ◌∷◌, ◌++◌, map, flatten}
use lib.ListN.{length, get_or}
use lib.Seq.{ext_get_or}
use Rattle.refusal.specs.Outcome.{Outcome, refused, value, bind}
use Rattle.adapter.specs.Adapter.{AdapterRow}
use Rattle.tables.specs.Rows.{Rows}
use Rattle.load.proofs.Order.{Holds, holds_value, holds_bind}
use Rattle.printed.specs.Printed.{lines_of, total_line}
use Rattle.report.specs.Report.{answer_of, answers_of, total_of, pages_of, report_of}
use Rattle.report.specs.Tables.{page_by, page_at}
use Rattle.program.specs.Program.{rows_in, said, program_of}
use Rattle.program.specs.Opened.{Found, found_in, open_of, found_by, Opens}
use Rattle.program.specs.Written.{Pages, Written}
use Rattle.program.specs.declared.Opened.{Opened}

-- the pages of adapters that were all tried
record Tried (x : Rows) (ys : List AdapterRow) (wss : List (List ℕ)) : Type 0 where
  all : length (map lines_of wss) ≡ length ys
  each : (k : ℕ) → k < length ys → page_by x k ys ≡ value (get_or (map lines_of wss) k [])

one_more : (x : Rows) (y : AdapterRow) (ys : List AdapterRow) (ws : List ℕ) (wss : List (List ℕ)) → answer_of x y ≡ value ws → Tried x ys wss → Tried x (y ∷ ys) (ws ∷ wss)
unfolding page_by bind
one_more x y ys ws wss e h = record { all = ap suc h.all; each = page }
  where
    page : (k : ℕ) → k < suc (length ys) → page_by x k (y ∷ ys) ≡ value (get_or (lines_of ws ∷ map lines_of wss) k [])
    page zero l = ap (λ o. bind o (λ us. value (lines_of us))) e
    page (suc k) l = h.each k (omega arith)

all_tried : (x : Rows) (ys : List AdapterRow) → Holds (Tried x ys) (answers_of x ys)
unfolding answers_of
all_tried x [] = holds_value (record { all = refl; each = λ k l. absurd (omega arith) })
all_tried x (y ∷ ys) =
    holds_bind {P = λ ws. answer_of x y ≡ value ws} (answer_of x y) _ (record { by = λ ws e. e })
    (λ ws e. holds_bind (answers_of x ys) _ (all_tried x ys) (λ wss h. holds_value (one_more x y ys ws wss e h)))

joined : (wss : List (List ℕ)) → pages_of wss ≡ flatten (map lines_of wss)
unfolding pages_of flatten
joined [] = refl
joined (ws ∷ wss) = ap (λ s. lines_of ws ++ s) (joined wss)

-- the first line and then each page in order, or the refusal
pub whole : (t : List ℕ) → Written (open_of t) (program_of t)
unfolding open_of found_in program_of said report_of page_at Written bind
whole t = loading (rows_in t)
  where
    trying : (x : Rows) (o : Outcome (List (List ℕ))) → answers_of x x.adapters ≡ o
        → Written (bind o (λ wss. value (record { rows = x; tunnels = total_of wss }))) (said (bind o (λ wss. value (total_line (total_of wss) ++ pages_of wss))))
    trying x (refused n vs) e = refl
    trying x (value wss) e = let h = (all_tried x x.adapters).by wss e in record {
      pages = map lines_of wss;
      all = h.all;
      each = λ k l. h.each k (omega (arith, h.all));
      bytes = ap (λ s. total_line (total_of wss) ++ s) (joined wss);
    }

    loading : (o : Outcome Rows) → Written (bind o (λ x. bind (answers_of x x.adapters) (λ wss. value (record { rows = x; tunnels = total_of wss })))) (said (bind o report_of))
    loading (refused n vs) = refl
    loading (value x) = trying x (answers_of x x.adapters) refl

-- what is written is fixed by what opening answers
same_pages : (f : Found) (s s' : List ℕ) → Pages f s → Pages f s' → s ≡ s'
same_pages f s s' p q =
    let e : p.pages ≡ q.pages = ext_get_or [] p.pages q.pages (p.all ∙ sym q.all) (λ k l. let a = p.each k l in let b = q.each k (omega (arith, p.all, q.all)) in cc) in
    p.bytes ∙ ap (λ ps. total_line f.tunnels ++ flatten ps) e ∙ sym q.bytes

same_written : (o : Outcome Found) (s s' : List ℕ) → Written o s → Written o s' → s ≡ s'
unfolding Written
same_written (refused n vs) s s' e f = e ∙ sym f
same_written (value f) s s' p q = same_pages f s s' p q

-- whoever writes the first line and then each page in order, or the refusal, writes what the program prints
pub only : (t s : List ℕ) → Written (open_of t) s → s ≡ program_of t
only t s h = same_written (open_of t) s (program_of t) h (whole t)

-- of what the call answered
pub opened_only : (t s : List ℕ) (o : Opened) → Opens t o → Written (found_by o.loaded o.answer) s → s ≡ program_of t
opened_only t s o h w = only t s (subst (λ f. Written f s) h.answers w)

pub opened_whole : (t : List ℕ) (o : Opened) → Opens t o → Written (found_by o.loaded o.answer) (program_of t)
opened_whole t o h = subst (λ f. Written f (program_of t)) (sym h.answers) (whole t)
