-- Laws for the layers above: in words that are well formed, a field that is found lies in order and within the word. Assumes nothing.
use Prim.Native.Nat.{ℕ, zero, suc, ◌+◌, ◌≤◌, ◌<◌}
use mathlib.Core.Path.{◌≡◌, refl, sym, ap, ◌∙◌, subst}
use mathlib.Core.List.{List, [], ◌∷◌}
use mathlib.Core.Bool.{Bool, true, false, cond, ◌&&◌, false≢true}
use Rattle.std.specs.Prelude.{Option, None, Some}
use native.Mathlib.Omega.{arith}
use native.Mathlib.Decide.{dec_lt, ℕ_discrete}
use lib.Dec.{ltb, leb, eqb}
use lib.ListN.{length}
use borrow.Author.Tests.{lt-ltb, le-ltb, leb-true, eqb-true}
use Rattle.refusal.specs.Outcome.{value}
use Rattle.layout.specs.Layout.{bits, word, kind, start, end, field_len, short_len, short_at, size_of, heads_from}
use Rattle.layout.specs.Description.{Description, field_of, fields_of, fields_behind, descriptions_of}
use Rattle.layout.proofs.Laws.{Rest, rest_same, size_pos}
use Rattle.description.specs.Rules.{good_range, good_name, whole, good_field, good_group, first_bad, check_of}
use Rattle.std.proofs.lemmas.Option.{same_Some}
use Rattle.fields.specs.declared.BitField.{BitField}
use Rattle.fields.specs.Names.{field_is, find_field, bit_field}
use Rattle.description.proofs.Laws.{good_front}
use Rattle.metadata.proofs.Places.{among, among_nil, among_other, at_heads, both, check_good}
use Rattle.metadata.proofs.Named.{From, its_fields}

-- what stands behind a register of well formed words is well formed too
record Behind (t : List ℕ) (g : ℕ → Bool) (p : ℕ) : Type 0 where
  places : List ℕ
  rest : Rest t (p + size_of (word t p)) places
  good : first_bad g places ≡ value tt

none_some : (o : Option Description) (d : Description) → o ≡ None → o ≡ Some d → ⊥
none_some o d a b = let z : ◌≡◌ {A = ℕ} 0 1 = cc in omega arith

behind : (t : List ℕ) (g : ℕ → Bool) (p : ℕ) (d : Description) (n i : ℕ) → length t ≤ i + n → among t p (heads_from size_of t i n) ≡ Some d
    → first_bad g (heads_from size_of t i n) ≡ value tt → Behind t g p
unfolding heads_from
behind t g p d zero i l e a = absurd (none_some _ d (among_nil t p) e)
behind t g p d (suc n) i l e a = go (dec_lt i (length t)) (behind t g p d n (i + size_of (word t i)) (omega (arith, size_pos (word t i))))
  where
    next : List ℕ
    next = heads_from size_of t (i + size_of (word t i)) n

    Later : Type 0
    Later = among t p next ≡ Some d → first_bad g next ≡ value tt → Behind t g p

    step : i < length t → among t p (i ∷ next) ≡ Some d → (g i ≡ true) × (first_bad g next ≡ value tt) → Dec (i ≡ p) → Later → Behind t g p
    step m k h (yes q) ih =
        subst (λ z. Behind t g z) q (record { places = next; rest = record { most = n; enough = omega (arith, size_pos (word t i)); is = refl }; good = h.1 })
    step m k h (no q) ih = ih (sym (among_other t p i next q) ∙ k) h.1

    go : Dec (i < length t) → Later → Behind t g p
    go (yes m) ih =
        let k : among t p (i ∷ next) ≡ Some d = rw (lt-ltb i (length t) m) at e in
        let b : first_bad g (i ∷ next) ≡ value tt = rw (lt-ltb i (length t) m) at a in
        step m k (good_front g i next b) (ℕ_discrete i p) ih
    go (no m) ih =
        let k : among t p [] ≡ Some d = rw (le-ltb i (length t) (omega arith)) at e in
        absurd (none_some _ d (among_nil t p) k)

-- a good field group is in order
field_order : (t : List ℕ) (p : ℕ) → kind (word t p) ≡ 2 → good_group t p ≡ true → start (word t p) ≤ end (word t p)
unfolding good_group good_field good_range
field_order t p k e = leb-true _ _ (order (rw k at e))
  where
    w : ℕ
    w = word t p

    r : Bool
    r = eqb (bits w 16 17) 0 && leb (start w) (end w) && leb 1 (field_len w) && leb (field_len w) 64 && leb (short_len w) 64

    n : Bool
    n = good_name t (p + 1) (field_len w)

    s : Bool
    s = good_name t (short_at w p) (short_len w)

    ranged : (ltb 0 p && (r && whole t p && n && s)) ≡ true → r ≡ true
    ranged h = (both r (whole t p) (both (r && whole t p) n (both (r && whole t p && n) s (both (ltb 0 p) (r && whole t p && n && s) h).1).0).0).0

    second : (a b c d f : Bool) → (a && b && c && d && f) ≡ true → b ≡ true
    second true true c d f h = refl
    second true false c d f h = h
    second false b c d f h = absurd (false≢true h)

    order : (ltb 0 p && (r && whole t p && n && s)) ≡ true → leb (start w) (end w) ≡ true
    order h = second (eqb (bits w 16 17) 0) (leb (start w) (end w)) (leb 1 (field_len w)) (leb (field_len w) 64) (leb (short_len w) 64) (ranged h)

-- the field found among the places of good groups
found_order : (t : List ℕ) (name : List ℕ) (r : List ℕ) (s e : ℕ) → first_bad (good_group t) r ≡ value tt → find_field name (fields_of t r) ≡ bit_field s e → (s ≤ e) × (e < 32)
unfolding fields_of find_field field_of
found_order t name [] s e a h = let z : ◌≡◌ {A = ℕ} 0 1 = cc in absurd (omega arith)
found_order t name (p ∷ r) s e a h = go (eqb (kind (word t p)) 2) refl h (found_order t name r s e (good_front (good_group t) p r a).1)
  where
    Later : Type 0
    Later = find_field name (fields_of t r) ≡ bit_field s e → (s ≤ e) × (e < 32)

    here : (b : Bool) → kind (word t p) ≡ 2 → cond b (bit_field (start (word t p)) (end (word t p))) (find_field name (fields_of t r)) ≡ bit_field s e → Later → (s ≤ e) × (e < 32)
    here true k q ih =
        let o = field_order t p k (good_front (good_group t) p r a).0 in
        let same = same_Some _ _ q in
        let u : start (word t p) ≡ s = ap (λ (f : BitField). f.start) same in
        let v : end (word t p) ≡ e = ap (λ (f : BitField). f.end) same in
        (omega arith, omega arith)
    here false k q ih = ih q

    go : (x : Bool) → eqb (kind (word t p)) 2 ≡ x → find_field name (cond x (field_of t p ∷ fields_of t r) []) ≡ bit_field s e → Later → (s ≤ e) × (e < 32)
    go true k q ih = here (field_is name (field_of t p)) (eqb-true _ _ k) q ih
    go false k q ih = let z : ◌≡◌ {A = ℕ} 0 1 = cc in absurd (omega arith)

-- a field of a description of well formed words
pub field_in_order : (t : List ℕ) (d : Description) (name : List ℕ) (s e : ℕ) → check_of t ≡ value tt → From t (descriptions_of t) d
    → find_field name d.fields ≡ bit_field s e → (s ≤ e) × (e < 32)
unfolding fields_behind
field_in_order t d name s e a h k =
    let b = behind t (good_group t) d.place d (length t) 0 (omega arith) (sym (at_heads t d.place) ∙ h.found) (check_good t a) in
    let r : Rest t (d.place + size_of (word t d.place)) (heads_from size_of t (d.place + size_of (word t d.place)) (length t)) = record { most = length t; enough = omega arith; is = refl } in
    found_order t name b.places s e b.good
    (ap (λ z. find_field name (fields_of t z)) (rest_same t _ _ _ b.rest r) ∙ ap (λ z. find_field name z) (its_fields t _ d h) ∙ k)
