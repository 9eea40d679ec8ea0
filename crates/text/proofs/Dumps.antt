-- Laws on a dump that is read into a part of the output. Assumes nothing.
use Rattle.std.specs.Prelude.{Err, Ok, Result}
use Prim.Native.Nat.{ℕ, zero, suc, ◌+◌, ◌-◌, ◌*◌, ◌%◌, ◌<◌, ◌≤◌}
use native.Mathlib.Omega.{arith}
use native.Mathlib.Decide.{dec_lt}
use mathlib.Core.Path.{◌≡◌, refl, ◌∙◌, ap, sym}
use mathlib.Core.Bool.{Bool, true, false, cond}
use mathlib.Core.List.{List, [], ◌∷◌, ◌++◌, map, append-nil, append_assoc}
use lib.Dec.{leb, ltb}
use lib.ListN.{length, take, drop, get_or, length-map, length-append, length-drop, drop_of_length-le}
use lib.Seq.{take_all, take_at, drop_at, drop-drop, get_or-take, get_or-drop, length-take-le}
use borrow.Author.Tests.{le-ltb, ltb-true, ltb-false}
use borrow.Rule.Slice.PartMut.{put_mid}
use Rattle.refusal.specs.Outcome.{value}
use Rattle.scan.specs.Scan.{lines, is_high, is_line_feed, before, place_from, on_first, pieces, filled, ended}
use Rattle.register.specs.declared.Register.{Register}
use Rattle.groups.specs.Group.{group_of, words}
use Rattle.groups.specs.declared.Group.{Group}
use Rattle.dump.specs.Sort.{insert, sort}
use Rattle.room.specs.Records.{records_of as dump_records, words_needed}
use Rattle.dump.specs.Dump.{offset, records_in, dump_words, dump_answer, output_after, ReadDone}
use Rattle.dump.proofs.Groups.{length_words}
use Rattle.room.proofs.Lines.{count_cons, record_bytes}
use Rattle.text.specs.Work.{Low, path_words, PutAt}
use Rattle.text.specs.Text.{path_group}
use Rattle.scan.proofs.Laws.{stops}
use Rattle.refusal.specs.Refusal.{outcome}
use Rattle.refusal.specs.declared.Refusal.{Refusal}
use Rattle.refusal.proofs.Laws.{not_refused}

-- ---- how long

module _ {A : Type 0} (key : A → ℕ) where
  length_insert : (x : A) (l : List A) → length (insert key x l) ≡ suc (length l)
  unfolding insert
  length_insert x [] = refl
  length_insert x (y ∷ ys) = step (leb (key x) (key y)) (length_insert x ys)
    where
      step : (b : Bool) → length (insert key x ys) ≡ suc (length ys) → length (cond b (x ∷ y ∷ ys) (y ∷ insert key x ys)) ≡ suc (suc (length ys))
      step true ih = refl
      step false ih = ap suc ih

  pub length_sort : (l : List A) → length (sort key l) ≡ length l
  unfolding sort
  length_sort [] = refl
  length_sort (x ∷ xs) = length_insert x (sort key xs) ∙ ap suc (length_sort xs)

-- the words of sorted records, by a group for each
pub length_sorted : (f : Register → Group) (rs : List Register) → length (words (map f (sort offset rs))) ≡ 4 * length rs
length_sorted f rs = length_words (map f (sort offset rs)) ∙ ap (λ n. 4 * n) (length-map (sort offset rs) f ∙ length_sort offset rs)

pub length_dump : (s : List ℕ) → length (dump_words s) ≡ words_needed s
unfolding dump_words records_in words_needed
length_dump s = length_sorted group_of (dump_records (lines s))

-- the bytes of lines
total : List (List ℕ) → ℕ
total [] = 0
total (l ∷ ls) = length l + total ls

total_pieces : (p : ℕ → Bool) (s : List ℕ) → total (pieces p s) ≤ length s
unfolding pieces on_first total
total_pieces p [] = omega arith
total_pieces p (b ∷ s) = step (p b) (pieces p s) (total_pieces p s)
  where
    step : (t : Bool) (ps : List (List ℕ)) → total ps ≤ length s → total (cond t ([] ∷ ps) (on_first b ps)) ≤ suc (length s)
    step true ps h = omega arith
    step false [] h = omega arith
    step false (u ∷ ps) h = omega arith

total_ended : (ps : List (List ℕ)) → total (ended ps) ≤ total ps
unfolding ended filled total
total_ended [] = omega arith
total_ended ([] ∷ []) = omega arith
total_ended ((b ∷ t) ∷ []) = omega arith
total_ended (t ∷ (u ∷ ps)) = omega (arith, total_ended (u ∷ ps))

total_records : (ls : List (List ℕ)) → 4 * length (dump_records ls) ≤ total ls
unfolding total dump_records
total_records [] = omega arith
total_records (l ∷ ls) = omega (arith, total_records ls, record_bytes l, count_cons l ls)

pub record_room : (s : List ℕ) → length (dump_words s) ≤ length s
unfolding words_needed lines
record_room s = omega (arith, length_dump s, total_records (lines s), total_ended (pieces is_line_feed s), total_pieces is_line_feed s)

-- ---- bytes above 127

low_high : (s : List ℕ) → Low s → length s ≤ before is_high s
unfolding is_high
low_high s low = go (dec_lt (before is_high s) (length s))
  where
    go : Dec (before is_high s < length s) → length s ≤ before is_high s
    go (yes h) = absurd (omega (arith, low (before is_high s) h, ltb-true 127 (get_or s (before is_high s) 0) (stops is_high s h)))
    go (no h) = omega arith

pub high_low : (s : List ℕ) → length s ≤ before is_high s → Low s
unfolding before is_high
high_low [] h i k = absurd (omega arith)
high_low (b ∷ s) h i k = step (ltb 127 b) refl h (λ q. high_low s q) i k
  where
    at : b ≤ 127 → Low s → Low (b ∷ s)
    at q l zero k = q
    at q l (suc i) k = l i (omega arith)

    step : (t : Bool) → ltb 127 b ≡ t → suc (length s) ≤ cond t 0 (suc (before is_high s)) → (length s ≤ before is_high s → Low s) → Low (b ∷ s)
    step true e h ih = absurd (omega arith)
    step false e h ih = at (omega (arith, ltb-false 127 b e)) (ih (omega arith))

pub low_part : (t : List ℕ) (i n : ℕ) → Low t → Low (take n (drop i t))
low_part t i n low k h =
    let a : k < n = omega (arith, length_take_min n (drop i t)) in
    let b : i + k < length t = omega (arith, length_take_min n (drop i t), length-drop i t) in
    omega (arith, low (i + k) b, get_or-take n (drop i t) k 0 a ∙ get_or-drop i t k 0)
  where
    length_take_min : (n : ℕ) (l : List ℕ) → (length (take n l) ≤ n) × (length (take n l) ≤ length l)
    length_take_min zero l = (omega arith, omega arith)
    length_take_min (suc n) [] = (omega arith, omega arith)
    length_take_min (suc n) (x ∷ l) = let r = length_take_min n l in (omega arith, omega arith)

-- ---- what reading gives

module _ (s scratch out : List ℕ) (low : Low s) (in_scratch : length (dump_words s) ≤ length scratch) (inOut : length (dump_words s) ≤ length out) where
  answer_is : dump_answer s (length scratch) (length out) ≡ value (length (dump_records (lines s)))
  unfolding dump_answer place_from
  answer_is = simp (le-ltb (0 + before is_high s) (length s) (omega (arith, low_high s low)), le-ltb (length scratch) (words_needed s) (omega (arith, length_dump s)), le-ltb (length out) (words_needed s) (omega (arith, length_dump s)))

  module _ (r : Result ℕ Refusal) (scratch' out' : List ℕ) (done : ReadDone s scratch out r scratch' out') where
    outcome_is : outcome r ≡ value (length (dump_records (lines s)))
    outcome_is = done.answers ∙ answer_is

    read_gives : (n : ℕ) → r ≡ Ok n → (4 * n ≡ length (dump_words s)) × (out' ≡ dump_words s ++ drop (4 * n) out)
    unfolding output_after words_needed
    read_gives n e =
        let o : value n ≡ value (length (dump_records (lines s))) = sym (ap outcome e) ∙ outcome_is in
        let m : n ≡ length (dump_records (lines s)) = cc in
        (ap (λ k. 4 * k) m ∙ sym (length_dump s), done.writes ∙ ap (λ q. output_after q s out) outcome_is ∙ ap (λ k. dump_words s ++ drop (4 * k) out) (sym m))

    not_refusing : (e : Refusal) → r ≡ Err e → ⊥
    not_refusing e k = not_refused e _ (sym (ap outcome k) ∙ outcome_is)

-- words that stand at the front of the part from k on
put_part : (ws out part' : List ℕ) (k n : ℕ) → k + n ≤ length out → n ≡ length ws → part' ≡ ws ++ drop n (take (length out - k) (drop k out)) → PutAt ws k out (k + n) (put_mid k (length out - k) out part')
put_part ws out part' k n h e f =
    let a : take (length out - k) (drop k out) ≡ drop k out = take_all (length out - k) (drop k out) (omega (arith, length-drop k out)) in
    let p : part' ≡ ws ++ drop (k + n) out = f ∙ ap (λ l. ws ++ drop n l) a ∙ ap (λ l. ws ++ l) (drop-drop n k out) in
    record {
      next = ap (λ m. k + m) e;
      written = ap (λ l. take k out ++ (part' ++ l)) (drop_of_length-le (drop k out) {i = length out - k} (omega (arith, length-drop k out))) ∙ ap (λ l. take k out ++ l) (append-nil part' ∙ p) ∙ sym (append_assoc (take k out) ws (drop (k + n) out));
    }

-- a dump read into the output from k on, by a part of the scratch
module _ (body scratch out : List ℕ) (k room : ℕ) (low : Low body) (fits : k + length (dump_words body) ≤ length out) (held : length (dump_words body) ≤ room) (inside : room ≤ length scratch) where
  front : length (dump_words body) ≤ length (take room scratch)
  front = omega (arith, length-take-le room scratch inside)

  back : length (dump_words body) ≤ length (take (length out - k) (drop k out))
  back = omega (arith, length-take-le (length out - k) (drop k out) (omega (arith, length-drop k out)), length-drop k out)

  module _ {r : (Result ℕ Refusal)} {scratch' out' : List ℕ} (done : ReadDone body (take room scratch) (take (length out - k) (drop k out)) r scratch' out') where
    pub dump_put : (n : ℕ) → r ≡ Ok n → (k + 4 * n ≤ length out) × PutAt (dump_words body) k out (k + 4 * n) (put_mid k (length out - k) out out')
    dump_put n e =
        let g = read_gives body _ _ low front back r scratch' out' done n e in
        (omega (arith, g.0), put_part (dump_words body) out out' k (4 * n) (omega (arith, g.0)) g.0 g.1)

    pub no_refusal : (e : Refusal) → r ≡ Err e → ⊥
    no_refusal = not_refusing body _ _ low front back r scratch' out' done

-- ---- words put at k, and others of the same length in their place
module _ (D out o : List ℕ) (k r : ℕ) (fits : k + length D ≤ length out) (puts : PutAt D k out r o) where
  front_long : length (take k out) ≡ k
  front_long = length-take-le k out (omega arith)

  regrouped : o ≡ take k out ++ (D ++ drop r out)
  regrouped = puts.written ∙ append_assoc (take k out) D (drop r out)

  size : r - k ≡ length D
  size = omega (arith, puts.next)

  from_k : drop k o ≡ D ++ drop r out
  from_k = ap (λ l. drop k l) regrouped ∙ drop_at (take k out) (D ++ drop r out) k front_long

  pub middle : take (r - k) (drop k o) ≡ D
  middle = ap (λ l. take (r - k) l) from_k ∙ take_at D (drop r out) (r - k) (sym size)

  pub put_long : (k ≤ r) × (r ≤ length out) × (length o ≡ length out)
  put_long = (omega (arith, puts.next), omega (arith, puts.next), ap length puts.written ∙ length-append (take k out ++ D) (drop r out) ∙ omega (arith, length-append (take k out) D, front_long, length-drop r out, puts.next))

  pub put_again : (P g : List ℕ) → length P ≡ length D → g ≡ P → PutAt P k out r (put_mid k (r - k) o g)
  put_again P g e f = record {
    next = puts.next ∙ ap (λ n. k + n) (sym e);
    written = ap (λ l. l ++ (g ++ drop (r - k) (drop k o))) (ap (λ l. take k l) regrouped ∙ take_at (take k out) (D ++ drop r out) k front_long)
        ∙ ap (λ l. take k out ++ (g ++ l)) (ap (λ l. drop (r - k) l) from_k ∙ drop_at D (drop r out) (r - k) (sym size))
        ∙ ap (λ l. take k out ++ (l ++ drop r out)) f ∙ sym (append_assoc (take k out) P (drop r out));
  }

pub length_paths : (s : List ℕ) → length (path_words s) ≡ length (dump_words s)
unfolding path_words dump_words records_in
length_paths s = length_sorted path_group (dump_records (lines s)) ∙ sym (length_dump_records s)
  where
    length_dump_records : (s : List ℕ) → length (dump_words s) ≡ 4 * length (dump_records (lines s))
    length_dump_records s = length_sorted group_of (dump_records (lines s))

pub whole_dump : (s : List ℕ) → length (dump_words s) % 4 ≡ 0
unfolding words_needed
whole_dump s = omega (arith, length_dump s)
