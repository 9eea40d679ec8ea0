-- Laws of the lines of one adapter. Assumes nothing.
use Rattle.std.specs.Prelude.{Err, Ok, Result}
use Prim.Native.Nat.{ℕ, zero, suc, ◌≤◌, ◌<◌}
use mathlib.Core.Path.{◌≡◌, refl, sym, ap, ◌∙◌}
use mathlib.Core.Bool.{Bool, true, false, cond, ◌||◌, true≢false}
use mathlib.Core.List.{List, [], ◌∷◌, ◌++◌, map}
use native.Mathlib.Omega.{arith}
use borrow.Author.Tests.{le-ltb}
use lib.Dec.{leb, ltb}
use lib.ListN.{length, take, drop, get_or, length-append, length-drop}
use lib.Seq.{drop_at}
use Rattle.refusal.specs.Outcome.{Outcome, refused, value, bind}
use Rattle.tables.specs.Rows.{Rows}
use Rattle.tables.specs.Packed.{adapter_word}
use Rattle.refusal.proofs.Laws.{refused_bind, numbered, not_refused}
use Rattle.print.specs.Print.{most, capped}
use Rattle.printed.specs.Printed as text
use Rattle.printed.specs.Printed.{lines_of, in_room, PrintDone}
use Rattle.printed.proofs.Room.{room_bytes}
use Rattle.report.specs.Report.{answer_of}
use Rattle.report.specs.Tables.{page_by, page_at, page_outcome, output_by, is_page, Paged}
use Rattle.report.specs.Work.{words_outcome, Answered}
use Rattle.refusal.specs.Refusal.{refusal_of, refused_by, outcome}
use Rattle.refusal.specs.declared.Fault.{Fault}
use Rattle.refusal.specs.declared.Fault.TheVariants.{FewRegisters, NoField, BadAdapters, GenTOffset, NoPathDump, NoOutAdapter, NoParentRoute, NoDownstreamRoute, Endless}
use Rattle.refusal.specs.declared.Refusal.{Refusal}
use Rattle.refusal.specs.declared.Refusal.TheVariants as refusal
use Rattle.tables.specs.declared.Tables.{Tables}
use Rattle.tables.specs.Tables.{Fits, Tabled, rows_of}

-- ---- the adapter at an index

page_here : (x : Rows) (i : ℕ) (ad : List ℕ) → i < length ad → page_by x i (map adapter_word ad) ≡ bind (answer_of x (adapter_word (get_or ad i 0))) (λ ws. value (lines_of ws))
unfolding page_by
page_here x i [] l = absurd (omega arith)
page_here x zero (w ∷ ws) l = refl
page_here x (suc i) (w ∷ ws) l = page_here x i ws (omega arith)

page_past : (x : Rows) (i : ℕ) (ad : List ℕ) → length ad ≤ i → page_by x i (map adapter_word ad) ≡ value []
unfolding page_by
page_past x i [] l = refl
page_past x zero (w ∷ ws) l = absurd (omega arith)
page_past x (suc i) (w ∷ ws) l = page_past x i ws (omega arith)

-- there is one refusal with the number 2
fault_short : (f : Fault) (n : ℕ) → refusal_of {A = ℕ} f ≡ refused 2 (n ∷ []) → ⊥
unfolding refusal_of
fault_short (FewRegisters s) n e = absurd (let z : ◌≡◌ {A = ℕ} 5 2 = cc in omega arith)
fault_short (NoField s) n e = absurd (let z : ◌≡◌ {A = ℕ} 6 2 = cc in omega arith)
fault_short (BadAdapters p) n e = absurd (let z : ◌≡◌ {A = ℕ} 7 2 = cc in omega arith)
fault_short (GenTOffset s) n e = absurd (let z : ◌≡◌ {A = ℕ} 8 2 = cc in omega arith)
fault_short (NoPathDump s) n e = absurd (let z : ◌≡◌ {A = ℕ} 9 2 = cc in omega arith)
fault_short (NoOutAdapter s) n e = absurd (let z : ◌≡◌ {A = ℕ} 10 2 = cc in omega arith)
fault_short (NoParentRoute s) n e = absurd (let z : ◌≡◌ {A = ℕ} 11 2 = cc in omega arith)
fault_short (NoDownstreamRoute s) n e = absurd (let z : ◌≡◌ {A = ℕ} 12 2 = cc in omega arith)
fault_short Endless n e = absurd (let z : ◌≡◌ {A = ℕ} 13 2 = cc in omega arith)

short_only : (q : Refusal) (n : ℕ) → refused_by {A = ℕ} q ≡ refused 2 (n ∷ []) → q ≡ refusal.Short n
short_only (refusal.NotAscii p) n e = absurd (let z : ◌≡◌ {A = ℕ} 1 2 = cc in omega arith)
short_only (refusal.Short m) n e = let z : m ≡ n = cc in ap refusal.Short z
short_only (refusal.Descriptions p) n e = absurd (let z : ◌≡◌ {A = ℕ} 3 2 = cc in omega arith)
short_only (refusal.Survey p) n e = absurd (let z : ◌≡◌ {A = ℕ} 4 2 = cc in omega arith)
short_only refusal.NoField n e = absurd (let z : ◌≡◌ {A = ℕ} 6 2 = cc in omega arith)
short_only (refusal.Fault f) n e = absurd (fault_short f n e)
short_only refusal.Missing n e = absurd (let z : ◌≡◌ {A = ℕ} 14 2 = cc in omega arith)

-- so lines are refused for want of room alone
pub lines_short : (s : List ℕ) (out out' : List ℕ) (r : Result ℕ Refusal) → PrintDone s out r out' → (q : Refusal) → r ≡ Err q → q ≡ refusal.Short (capped (length s))
unfolding in_room
lines_short s out out' r d q e = go (leb most (length s) || ltb (length out) (length s)) (sym (ap outcome e) ∙ d.answers)
  where
    go : (b : Bool) → refused_by q ≡ cond b (refused 2 (capped (length s) ∷ [])) (value (length s)) → q ≡ refusal.Short (capped (length s))
    go true f = short_only q (capped (length s)) f
    go false f = absurd (not_refused q (length s) f)

-- a refusal leaves the output as it was
kept_by : (m : Refusal) (s : Outcome (List ℕ)) (out : List ℕ) → output_by (refused_by m) s out ≡ out
unfolding output_by
kept_by m s out = rw (numbered ℕ m).2 refl

page_kept : (m : Refusal) (s out : List ℕ) → text.output_by s (refused_by m) out ≡ out
unfolding text.output_by
page_kept m s out = rw (numbered ℕ m).2 refl

module _ (tables : Tables) (i : ℕ) (out : List ℕ) where
  -- ---- an empty page

  empty : (Fits tables → Tabled tables → page_at (rows_of tables) i ≡ value []) → Paged tables i out (Ok (Ok 0)) out
  unfolding page_outcome output_by is_page bind in_room
  empty e = record {
    answers = λ k es. sym (ap (λ o. bind o (in_room (length out))) (e k es) ∙ ap (λ b. cond b (refused 2 (capped 0 ∷ [])) (value 0)) (le-ltb (length out) 0 (omega arith)));
    writes = λ k es. sym (ap (λ o. output_by (value 0) o out) (e k es));
    larger = λ z. refl;
    kept = λ q. refl;
    within = λ n q. let z : 0 ≡ n = cc in omega arith;
    tail = λ n q. refl;
    wants = λ x g. absurd (let z : ◌≡◌ {A = ℕ} 0 1 = cc in omega arith);
    short = λ k es n q. absurd (let z : ◌≡◌ {A = ℕ} 0 1 = cc in omega arith);
    refuses = λ k es m q. absurd (let z : ◌≡◌ {A = ℕ} 0 1 = cc in omega arith);
    met = λ m q. absurd (let z : ◌≡◌ {A = ℕ} 0 1 = cc in omega arith);
    past = λ h. refl;
    long = refl;
  }

  pub paged_larger : (Fits tables → ⊥) → Paged tables i out (Ok (Ok 0)) out
  paged_larger z = empty (λ k es. absurd (z k))

  pub paged_past : length tables.adapters.now ≤ i → Paged tables i out (Ok (Ok 0)) out
  unfolding page_at rows_of
  paged_past l = empty (λ k es. page_past (rows_of tables) i tables.adapters.now l)

  -- ---- an adapter's page

  module _ (l : i < length tables.adapters.now) (f : Fits tables) (r : Result ℕ Refusal) (ws : List ℕ) (a : Answered tables i r ws) where
    page_of : Fits tables → Tabled tables → page_at (rows_of tables) i ≡ bind (words_outcome r ws) (λ us. value (lines_of us))
    unfolding page_at rows_of
    page_of k es = page_here (rows_of tables) i tables.adapters.now l ∙ sym (ap (λ o. bind o (λ us. value (lines_of us))) (a.answers k es))

    pub paged_refused : (m : Refusal) → r ≡ Err m → Paged tables i out (Err m) out
    unfolding page_outcome output_by is_page words_outcome
    paged_refused m e = record {
      answers = λ k es. sym (ap (λ o. bind o (in_room (length out))) (page_refused k es) ∙ refused_bind m (in_room (length out)));
      writes = λ k es. sym (kept_by m (page_at (rows_of tables) i) out);
      larger = λ z. absurd (z f);
      kept = λ q. refl;
      within = λ n q. absurd (let z : ◌≡◌ {A = ℕ} 0 1 = cc in omega arith);
      tail = λ n q. refl;
      wants = λ x g. absurd (let z : ◌≡◌ {A = ℕ} 0 1 = cc in omega arith);
      short = λ k es n q. absurd (let z : ◌≡◌ {A = ℕ} 0 1 = cc in omega arith);
      refuses = λ k es n q. page_refused k es ∙ (let z : m ≡ n = cc in ap refused_by z);
      met = λ n q. a.met n (e ∙ (let z : m ≡ n = cc in ap Err z));
      past = λ h. absurd (omega arith);
      long = refl;
    }
      where
        page_refused : Fits tables → Tabled tables → page_at (rows_of tables) i ≡ refused_by m
        page_refused k es = page_of k es ∙ ap (λ y. bind (words_outcome y ws) (λ us. value (lines_of us))) e ∙ refused_bind m (λ us. value (lines_of us))

    module _ (n : ℕ) (e : r ≡ Ok n) (p : Result ℕ Refusal) (out' : List ℕ) (d : PrintDone (lines_of (take n ws)) out p out') where
      page_words : Fits tables → Tabled tables → page_at (rows_of tables) i ≡ value (lines_of (take n ws))
      unfolding bind words_outcome
      page_words k es = page_of k es ∙ ap (λ y. bind (words_outcome y ws) (λ us. value (lines_of us))) e

      paged_bytes : (b : ℕ) → p ≡ Ok b → Paged tables i out (Ok (Ok b)) out'
      unfolding page_outcome output_by is_page bind text.output_by
      paged_bytes b q =
          let s = lines_of (take n ws) in
          let bytes : value b ≡ in_room (length out) s = sym (ap outcome q) ∙ d.answers in
          let wrote : out' ≡ s ++ drop (length s) out = d.writes ∙ ap (λ y. text.output_by s (outcome y) out) q in
          let room = room_bytes s (length out) b bytes in
          record {
            answers = λ k es. bytes ∙ sym (ap (λ o. bind o (in_room (length out))) (page_words k es));
            writes = λ k es. wrote ∙ sym (ap (λ o. output_by (value b) o out) (page_words k es));
            larger = λ z. absurd (z f);
            kept = λ z. absurd (true≢false z);
            within = λ m g. let z : b ≡ m = cc in omega (arith, room.1);
            tail = λ m g.
                let z : length s ≡ m = room.0 ∙ (let y : b ≡ m = cc in y) in
                ap (drop m) wrote ∙ drop_at s (drop (length s) out) m z ∙ ap (λ k. drop k out) z;
            wants = λ x g. absurd (let z : ◌≡◌ {A = ℕ} 0 1 = cc in omega arith);
            short = λ k es m g. absurd (let z : ◌≡◌ {A = ℕ} 0 1 = cc in omega arith);
            refuses = λ k es m g. absurd (let z : ◌≡◌ {A = ℕ} 0 1 = cc in omega arith);
            met = λ m g. absurd (let z : ◌≡◌ {A = ℕ} 0 1 = cc in omega arith);
            past = λ h. absurd (omega arith);
            long = ap length wrote ∙ length-append s (drop (length s) out) ∙ omega (arith, length-drop (length s) out, room);
          }

      paged_short : (m : Refusal) → p ≡ Err m → Paged tables i out (Ok (Err m)) out'
      unfolding page_outcome is_page bind
      paged_short m q =
          let s = lines_of (take n ws) in
          let kept : out' ≡ out = d.writes ∙ ap (λ y. text.output_by s (outcome y) out) q ∙ page_kept m s out in
          record {
            answers = λ k es. sym (ap outcome q) ∙ d.answers ∙ sym (ap (λ o. bind o (in_room (length out))) (page_words k es));
            writes = λ k es. kept ∙ sym (kept_by m (page_at (rows_of tables) i) out);
            larger = λ z. absurd (z f);
            kept = λ z. kept;
            within = λ k g. absurd (let z : ◌≡◌ {A = ℕ} 0 1 = cc in omega arith);
            tail = λ k g. ap (drop k) kept;
            wants = λ x g. (capped (length s), (let z : x ≡ m = cc in z) ∙ lines_short s out out' p d m q);
            short = λ k es x g. (s, page_words k es, (let z : x ≡ m = cc in z) ∙ lines_short s out out' p d m q);
            refuses = λ k es x g. absurd (let z : ◌≡◌ {A = ℕ} 0 1 = cc in omega arith);
            met = λ x g. absurd (let z : ◌≡◌ {A = ℕ} 0 1 = cc in omega arith);
            past = λ h. absurd (omega arith);
            long = ap length kept;
          }

      pub paged : Paged tables i out (Ok p) out'
      paged = go p refl
        where
          go : (q : Result ℕ Refusal) → p ≡ q → Paged tables i out (Ok q) out'
          go (Ok b) e = paged_bytes b e
          go (Err m) e = paged_short m e
