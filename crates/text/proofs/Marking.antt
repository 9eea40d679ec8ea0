-- Laws on groups that get bit 16. Assumes nothing.
use Rattle.std.specs.Prelude.{Err, None, Ok, Option, Result, Some}
use Prim.Native.Nat.{ℕ, ◌+◌, ◌*◌, ◌%◌, ◌<◌, ◌≤◌}
use native.Mathlib.Omega.{arith}
use native.Mathlib.Nat.{add-zero}
use mathlib.Core.Path.{◌≡◌, refl, ◌∙◌, ap, sym}
use mathlib.Core.Bool.{Bool, true, false, cond}
use mathlib.Core.List.{List, [], ◌∷◌, ◌++◌, map, append-nil, append_assoc}
use lib.Dec.{leb, ltb, eqb}
use lib.ListN.{length, take, drop, get_or, set, length-append, length-drop, length-set, take-append-drop, drop_of_length-le}
use lib.Seq.{set_at, length-take-le, take_all, take_at, drop_at, drop-drop, get_or-drop}
use Rattle.util.specs.Number.{hex_number}
use Rattle.util.proofs.Laws.{hex_le}
use Rattle.scan.specs.Scan.{tokens, lines}
use Rattle.register.specs.declared.Skip.TheVariants.{Comment, Few}
use Rattle.register.specs.Line.{max16, is_comment, with_token, register_of, four_tokens, five_tokens, by_tokens, meaning}
use Rattle.register.specs.declared.Register.{Register}
use Rattle.groups.specs.Group.{group_of, words}
use Rattle.dump.proofs.Groups.{Whole, Whole.empty, Whole.group, whole}
use Rattle.dump.specs.Sort.{insert, sort}
use Rattle.room.specs.Records.{with_record, records_of as dump_records}
use Rattle.dump.specs.Dump.{offset, records_in, dump_words}
use Rattle.text.specs.Text.{path_group}
use Rattle.text.specs.Work.{marked, path_words}
use Rattle.register.specs.declared.Skip.{Skip}

-- ---- the loop: groups before i are marked

-- a store of one group's head
head_set : (out : List ℕ) (i a b c d m : ℕ) (s : List ℕ) → i ≤ length out → drop i out ≡ a ∷ b ∷ c ∷ d ∷ s → set out i m ≡ take i out ++ (m ∷ b ∷ c ∷ d ∷ s)
head_set out i a b c d m s h e =
    ap (λ l. set l i m) (sym (take-append-drop i out) ∙ ap (λ l. take i out ++ l) e) ∙ set_at (take i out) a (b ∷ c ∷ d ∷ s) m i (length-take-le i out h)

pub record Marks (old out : List ℕ) (i : ℕ) : Type 0 where
  pub long : length out ≡ length old
  pub fours : length old % 4 ≡ 0
  pub by : i % 4 ≡ 0
  pub within : i ≤ length old
  pub same : drop i out ≡ drop i old
  pub rest : take i out ++ marked (drop i old) ≡ marked old

pub marks_start : (old : List ℕ) → length old % 4 ≡ 0 → Marks old old 0
marks_start old h = record { long = refl; fours = h; by = refl; within = omega arith; same = refl; rest = refl }

module _ (old out : List ℕ) (i : ℕ) (m : Marks old out i) where
  -- one group more
  step : {s : List ℕ} → Whole s → drop i old ≡ s → i < length old → Marks old (set out i (0x50010000 + get_or out i 0 % 65536)) (i + 4)
  unfolding marked
  step empty e h = absurd (omega (arith, ap length e, length-drop i old))
  step (group a b c d s) e h =
      let f : drop i out ≡ a ∷ b ∷ c ∷ d ∷ s = m.same ∙ e in
      let g : get_or out i 0 ≡ a = sym (get_or-drop i out 0 0 ∙ ap (λ n. get_or out n 0) (add-zero i)) ∙ ap (λ l. get_or l 0 0) f in
      let x = 0x50010000 + a % 65536 in
      let p : set out i (0x50010000 + get_or out i 0 % 65536) ≡ take i out ++ (x ∷ b ∷ c ∷ d ∷ s) = ap (λ v. set out i (0x50010000 + v % 65536)) g ∙ head_set out i a b c d x s (omega (arith, m.long, m.within)) f in
      let q : take i out ++ (x ∷ b ∷ c ∷ d ∷ s) ≡ (take i out ++ (x ∷ b ∷ c ∷ d ∷ [])) ++ s = sym (append_assoc (take i out) (x ∷ b ∷ c ∷ d ∷ []) s) in
      let n : length (take i out ++ (x ∷ b ∷ c ∷ d ∷ [])) ≡ i + 4 = length-append (take i out) (x ∷ b ∷ c ∷ d ∷ []) ∙ omega (arith, length-take-le i out (omega (arith, m.long, m.within))) in
      let o : drop (i + 4) old ≡ s = sym (drop-drop 4 i old) ∙ ap (λ l. drop 4 l) e in
      record {
        long = length-set out i _ ∙ m.long;
        fours = m.fours;
        by = omega (arith, m.by);
        within = omega (arith, ap length e, length-drop i old);
        same = ap (λ l. drop (i + 4) l) (p ∙ q) ∙ drop_at (take i out ++ (x ∷ b ∷ c ∷ d ∷ [])) s (i + 4) n ∙ sym o;
        rest = ap (λ l. take (i + 4) l ++ marked (drop (i + 4) old)) (p ∙ q)
            ∙ ap (λ l. l ++ marked (drop (i + 4) old)) (take_at (take i out ++ (x ∷ b ∷ c ∷ d ∷ [])) s (i + 4) n)
            ∙ append_assoc (take i out) (x ∷ b ∷ c ∷ d ∷ []) (marked (drop (i + 4) old))
            ∙ ap (λ l. take i out ++ (x ∷ b ∷ c ∷ d ∷ marked l)) o
            ∙ ap (λ l. take i out ++ marked l) (sym e) ∙ m.rest;
      }

  pub marks_step : i < length old → Marks old (set out i (0x50010000 + get_or out i 0 % 65536)) (i + 4)
  marks_step h = step (whole (drop i old) (omega (arith, m.fours, m.by, m.within, length-drop i old))) refl h

  pub marks_end : length old ≤ i → out ≡ marked old
  unfolding marked
  marks_end h =
      sym (take_all i out (omega (arith, m.long))) ∙ sym (append-nil (take i out)) ∙ ap (λ l. take i out ++ marked l) (sym (drop_of_length-le old {i = i} h)) ∙ m.rest

-- ---- what is marked: records whose offsets have 16 bits

-- every record of a list has property P
data All {A : Type 0} (P : A → Type 0) : List A → Type 0 where
  none : All P []
  more : {x : A} {xs : List A} → P x → All P xs → All P (x ∷ xs)

module _ {A : Type 0} (P : A → Type 0) (key : A → ℕ) where
  all_insert : (x : A) (xs : List A) → P x → All P xs → All P (insert key x xs)
  unfolding insert
  all_insert x [] p none = more p none
  all_insert x (y ∷ ys) p (more q qs) = step (leb (key x) (key y)) (all_insert x ys p qs)
    where
      step : (b : Bool) → All P (insert key x ys) → All P (cond b (x ∷ y ∷ ys) (y ∷ insert key x ys))
      step true r = more p (more q qs)
      step false r = more q r

  all_sort : (xs : List A) → All P xs → All P (sort key xs)
  unfolding sort
  all_sort [] none = none
  all_sort (x ∷ xs) (more p ps) = all_insert x (sort key xs) p (all_sort xs ps)

Narrow : Register → Type 0
Narrow r = r.offset ≤ 65535

-- the offset is a line's first token, of 16 bits
narrow_by : (k : ℕ) (a : List ℕ) (rest : ℕ → (Result Register Skip)) → ((v : ℕ) → v ≤ 65535 → (r : Register) → rest v ≡ Ok r → Narrow r) → (r : Register) → with_token k (hex_number max16 a) rest ≡ Ok r → Narrow r
unfolding with_token
narrow_by k a rest f = step (hex_number max16 a) refl
  where
    step : (n : Option ℕ) → hex_number max16 a ≡ n → (r : Register) → with_token k n rest ≡ Ok r → Narrow r
    step None e r q = let z : ◌≡◌ {A = ℕ} 0 1 = cc in absurd (omega arith)
    step (Some v) e r q = f v (hex_le max16 a v e) r q

-- any other token leaves it
kept_by : (k : ℕ) (n : Option ℕ) (rest : ℕ → (Result Register Skip)) → ((v : ℕ) (r : Register) → rest v ≡ Ok r → Narrow r) → (r : Register) → with_token k n rest ≡ Ok r → Narrow r
unfolding with_token
kept_by k None rest f r q = let z : ◌≡◌ {A = ℕ} 0 1 = cc in absurd (omega arith)
kept_by k (Some v) rest f r q = f v r q

narrow_is : (o a b c x : ℕ) → o ≤ 65535 → (r : Register) → ◌≡◌ {A = Result Register Skip} (Ok (register_of o a b c x)) (Ok r) → Narrow r
unfolding register_of Narrow
narrow_is o a b c x h r q = let e : register_of o a b c x ≡ r = cc in omega (arith, ap (λ (y : Register). y.offset) e)

narrow_four : (a b d : List ℕ) (r : Register) → four_tokens a b d ≡ Ok r → Narrow r
unfolding four_tokens
narrow_four a b d = narrow_by 0 a _ (λ o h. kept_by 1 _ _ (λ u. kept_by 3 _ _ (λ v. narrow_is o u 0 0 v h)))

narrow_five : (a b c d e : List ℕ) (r : Register) → five_tokens a b c d e ≡ Ok r → Narrow r
unfolding five_tokens
narrow_five a b c d e = narrow_by 0 a _ (λ o h. kept_by 1 _ _ (λ u. kept_by 2 _ _ (λ v. kept_by 3 _ _ (λ w. kept_by 4 _ _ (λ x. narrow_is o u v w x h)))))

narrow_line : (l : List ℕ) (r : Register) → meaning l ≡ Ok r → Narrow r
unfolding meaning by_tokens
narrow_line l r q = step (is_comment l) (ltb (length (tokens l)) 4) (eqb (length (tokens l)) 4) q
  where
    step : (c f g : Bool) → cond c (Err Comment) (cond f (Err Few) (cond g (four_tokens (get_or (tokens l) 0 []) (get_or (tokens l) 1 []) (get_or (tokens l) 3 [])) (five_tokens (get_or (tokens l) 0 []) (get_or (tokens l) 1 []) (get_or (tokens l) 2 []) (get_or (tokens l) 3 []) (get_or (tokens l) 4 [])))) ≡ Ok r → Narrow r
    step true f g e = let z : ◌≡◌ {A = ℕ} 0 1 = cc in absurd (omega arith)
    step false true g e = let z : ◌≡◌ {A = ℕ} 0 1 = cc in absurd (omega arith)
    step false false true e = narrow_four _ _ _ r e
    step false false false e = narrow_five _ _ _ _ _ r e

narrow_records : (ls : List (List ℕ)) → All Narrow (dump_records ls)
unfolding dump_records with_record
narrow_records [] = none
narrow_records (l ∷ ls) = step (meaning l) refl (narrow_records ls)
  where
    step : (m : Result Register Skip) → meaning l ≡ m → All Narrow (dump_records ls) → All Narrow (with_record m (dump_records ls))
    step (Ok r) e a = more (narrow_line l r e) a
    step (Err w) e a = a

marked_words : (rs : List Register) → All Narrow rs → marked (words (map group_of rs)) ≡ words (map path_group rs)
unfolding marked words group_of path_group Narrow
marked_words [] none = refl
marked_words (r ∷ rs) (more p ps) =
    let e : 0x50010000 + (0x50000000 + r.offset) % 65536 ≡ 0x50000000 + r.offset + 65536 = omega arith in
    ap (λ h. h ∷ (r.relative_offset * 65536 + r.cap_id) ∷ r.vs_cap_id ∷ r.value ∷ marked (words (map group_of rs))) e
    ∙ ap (λ q. (0x50000000 + r.offset + 65536) ∷ (r.relative_offset * 65536 + r.cap_id) ∷ r.vs_cap_id ∷ r.value ∷ q) (marked_words rs ps)

-- a dump's words, marked, are a path dump's
pub marked_dump : (s : List ℕ) → marked (dump_words s) ≡ path_words s
unfolding dump_words records_in path_words
marked_dump s = marked_words _ (all_sort Narrow offset _ (narrow_records (lines s)))
