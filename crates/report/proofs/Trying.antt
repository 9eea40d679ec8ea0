-- Laws of the number of all tunnels. Assumes nothing.
use Prim.Native.Nat.{ℕ, suc, ◌+◌, ◌*◌, ◌≤◌, ◌<◌}
use mathlib.Core.Path.{◌≡◌, refl, sym, ap, ◌∙◌}
use mathlib.Core.Bool.{Bool, true, false, cond}
use mathlib.Core.List.{List, [], ◌∷◌, map}
use Rattle.std.specs.Prelude.{Result, Ok, Err}
use native.Mathlib.Omega.{arith}
use native.Mathlib.Nat.{add-zero, zero-add, add_assoc}
use native.Mathlib.Numerals.{add-one}
use lib.ListN.{length, take, drop, get_or, drop_of_length-le}
use lib.Seq.{drop-cons, length-take-le}
use Rattle.refusal.specs.Outcome.{Outcome, refused, value, bind}
use Rattle.adapter.specs.Adapter.{AdapterRow}
use Rattle.tables.specs.Rows.{Rows}
use Rattle.tables.specs.Packed.{adapter_word}
use Rattle.refusal.specs.Refusal.{refused_by}
use Rattle.refusal.specs.declared.Refusal.{Refusal}
use Rattle.refusal.proofs.Laws.{refused_bind}
use Rattle.printing.specs.Lines.{is_tunnel, is_hop}
use Rattle.printed.specs.Printed.{parts_of, one, tunnels_by, tunnels_in}
use Rattle.report.specs.Report.{answer_of, answers_of, total_of}
use Rattle.report.specs.Tables.{Tries}
use Rattle.report.specs.Work.{words_outcome, Answered}
use Rattle.tables.specs.declared.Tables.{Tables}
use Rattle.tables.specs.Tables.{Fits, Tabled, rows_of}

-- ---- how many tunnels words have at most

one_at_most : (b : Bool) → one b ≤ 1
unfolding one
one_at_most true = omega arith
one_at_most false = omega arith

few_tunnels : (ws : List ℕ) → tunnels_by (parts_of ws) ≤ length ws
unfolding tunnels_by parts_of
few_tunnels [] = omega arith
few_tunnels (w ∷ []) = omega (arith, one_at_most (is_tunnel w))
few_tunnels (w ∷ x ∷ ws) = go (is_hop w) (few_tunnels ws) (few_tunnels (x ∷ ws))
  where
    go : (b : Bool) → tunnels_by (parts_of ws) ≤ length ws → tunnels_by (parts_of (x ∷ ws)) ≤ suc (length ws) → one (is_tunnel w) + tunnels_by (cond b (parts_of ws) (parts_of (x ∷ ws))) ≤ suc (suc (length ws))
    go true h k = omega (arith, one_at_most (is_tunnel w))
    go false h k = omega (arith, one_at_most (is_tunnel w))

-- no more tunnels than words
tunnels_few : (ws : List ℕ) → tunnels_in ws ≤ length ws
unfolding tunnels_in
tunnels_few ws = few_tunnels ws

-- ---- the adapters that are left

-- the tunnels so far, and those of the adapters that are left
unfoldable pub total_with : Rows → ℕ → List AdapterRow → Outcome ℕ
total_with x n ys = bind (answers_of x ys) (λ wss. value (n + total_of wss))

-- they are those of all adapters
pub record Trying (tables : Tables) (total i : ℕ) : Type 0 where
  pub past : i ≤ length tables.adapters.now
  pub few : total ≤ 16384 * i
  pub whole : Fits tables → Tabled tables
      → total_with (rows_of tables) total (map adapter_word (drop i tables.adapters.now)) ≡ bind (answers_of (rows_of tables) (rows_of tables).adapters) (λ wss. value (total_of wss))

from_none : (o : Outcome (List (List ℕ))) → bind o (λ wss. value (0 + total_of wss)) ≡ bind o (λ wss. value (total_of wss))
unfolding bind
from_none (refused k vs) = refl
from_none (value wss) = ap value (zero-add (total_of wss))

from_one : (total : ℕ) (ws : List ℕ) (o : Outcome (List (List ℕ))) → bind o (λ wss. value (total + tunnels_in ws + total_of wss)) ≡ bind (bind o (λ wss. value (ws ∷ wss))) (λ wss. value (total + total_of wss))
unfolding bind total_of
from_one total ws (refused k vs) = refl
from_one total ws (value wss) = ap value (add_assoc total (tunnels_in ws) (total_of wss))

module _ (x : Rows) (total : ℕ) (y : AdapterRow) (ys : List AdapterRow) where
  with_one : (ws : List ℕ) → value ws ≡ answer_of x y → total_with x (total + tunnels_in ws) ys ≡ total_with x total (y ∷ ys)
  unfolding total_with answers_of bind
  with_one ws e = from_one total ws (answers_of x ys) ∙ ap (λ o. bind (bind o (λ us. bind (answers_of x ys) (λ wss. value (us ∷ wss)))) (λ wss. value (total + total_of wss))) e

  with_refused : (m : Refusal) → refused_by m ≡ answer_of x y → refused_by m ≡ total_with x total (y ∷ ys)
  unfolding total_with answers_of
  with_refused m e =
      let g : List ℕ → Outcome (List (List ℕ)) = λ us. bind (answers_of x ys) (λ wss. value (us ∷ wss)) in
      let h : List (List ℕ) → Outcome ℕ = λ wss. value (total + total_of wss) in
      sym (ap (λ o. bind o h) (refused_bind m g) ∙ refused_bind m h) ∙ ap (λ o. bind (bind o g) h) e

module _ (tables : Tables) where
  pub tries_larger : (Fits tables → ⊥) → Tries tables (Ok 0)
  tries_larger z = record { answers = λ k es. absurd (z k); larger = λ f. refl; few = λ n q. let e : 0 ≡ n = cc in omega arith; met = λ m q. absurd (let z : ◌≡◌ {A = ℕ} 0 1 = cc in omega arith) }

  pub none_tried : Trying tables 0 0
  unfolding total_with rows_of
  none_tried = record { past = omega arith; few = omega arith; whole = λ k es. from_none (answers_of (rows_of tables) (map adapter_word tables.adapters.now)) }

  module _ (total i : ℕ) (t : Trying tables total i) where
    -- the next adapter is the first of those that are left
    next : i < length tables.adapters.now → total_with (rows_of tables) total (map adapter_word (drop i tables.adapters.now)) ≡ total_with (rows_of tables) total (adapter_word (get_or tables.adapters.now i 0) ∷ map adapter_word (drop (suc i) tables.adapters.now))
    next l = ap (λ ys. total_with (rows_of tables) total (map adapter_word ys)) (drop-cons tables.adapters.now i 0 l)

    pub one_tried : i < length tables.adapters.now → (r : Result ℕ Refusal) (ws : List ℕ) → Answered tables i r ws → length ws ≡ 16384 → (n : ℕ) → r ≡ Ok n → (k : ℕ) → k ≡ tunnels_in (take n ws) → Trying tables (total + k) (i + 1)
    unfolding words_outcome
    one_tried l r ws a q n e k z = record {
      past = omega arith;
      few = omega (arith, t.few, tunnels_few (take n ws), length-take-le n ws (a.within n e), a.within n e);
      whole = λ f es.
          ap (λ j. total_with (rows_of tables) (total + k) (map adapter_word (drop j tables.adapters.now))) (add-one i)
          ∙ ap (λ j. total_with (rows_of tables) (total + j) (map adapter_word (drop (suc i) tables.adapters.now))) z
          ∙ with_one (rows_of tables) total (adapter_word (get_or tables.adapters.now i 0)) (map adapter_word (drop (suc i) tables.adapters.now)) (take n ws) (sym (ap (λ y. words_outcome y ws) e) ∙ a.answers f es)
          ∙ sym (next l)
          ∙ t.whole f es;
    }

    pub tries_refused : i < length tables.adapters.now → Fits tables → (r : Result ℕ Refusal) (ws : List ℕ) → Answered tables i r ws → (m : Refusal) → r ≡ Err m → Tries tables (Err m)
    unfolding words_outcome
    tries_refused l f r ws a m e = record {
      answers = λ k es.
          with_refused (rows_of tables) total (adapter_word (get_or tables.adapters.now i 0)) (map adapter_word (drop (suc i) tables.adapters.now)) m (sym (ap (λ y. words_outcome y ws) e) ∙ a.answers k es)
          ∙ sym (next l)
          ∙ t.whole k es;
      larger = λ z. absurd (z f);
      few = λ n q. absurd (let z : ◌≡◌ {A = ℕ} 0 1 = cc in omega arith);
      met = λ n q. a.met n (e ∙ q);
    }

    pub tries_all : length tables.adapters.now ≤ i → Fits tables → Tries tables (Ok total)
    unfolding total_with answers_of bind total_of
    tries_all l f = record {
      answers = λ k es.
          ap value (sym (add-zero total))
          ∙ sym (ap (λ ys. total_with (rows_of tables) total (map adapter_word ys)) (drop_of_length-le tables.adapters.now l))
          ∙ t.whole k es;
      larger = λ z. absurd (z f);
      few = λ n q. let e : total ≡ n = cc in omega (arith, t.few, t.past);
      met = λ m q. absurd (let z : ◌≡◌ {A = ℕ} 0 1 = cc in omega arith);
    }
