-- Laws of the groups: bit fields, bytes, sizes, and what a scan over the heads has before it. Assumes nothing.
use Prim.Native.Nat.{ℕ, zero, suc, ◌+◌, ◌-◌, ◌/◌, ◌%◌, ◌^◌, ◌≤◌, ◌<◌}
use mathlib.Core.Path.{◌≡◌, refl, sym, ap, ◌∙◌}
use mathlib.Core.List.{List, [], ◌∷◌}
use mathlib.Core.Bool.{Bool, true, false, cond}
use native.Mathlib.Omega.{arith}
use native.Mathlib.Nat.{mod-lt, div-one, sub-zero, zero-div}
use lib.ListN.{length, get_or-eq_default}
use lib.Dec.{ltb, eqb}
use borrow.Author.Tests.{lt-ltb, le-ltb}
use Rattle.util.specs.Bits.{bits_of}
use Rattle.layout.specs.Layout.{bits, low, word, byte_at, size_of, heads_from, heads}

-- the bit fields here are util's
pub bits_same : (w l h : ℕ) → bits_of w l h ≡ bits w l h
unfolding bits_of
bits_same w l h = refl

pub low_same : (w h : ℕ) → bits_of w 0 h ≡ low w h
unfolding bits_of
low_same w h = rw (div-one, sub-zero) refl

-- a loop's count, one step on
pub one_less : (i n : ℕ) → i < n → n - i ≡ suc (n - (i + 1))
one_less i n l = omega arith

-- a byte past the end
pub byte_past : (t : List ℕ) (p j : ℕ) → length t ≤ p → byte_at t p j ≡ 0
unfolding byte_at
byte_past t p j l =
    ap (λ (w : ℕ). w / 256 ^ (j % 4) % 256) (get_or-eq_default t 0 {n = p + j / 4} (omega arith)) ∙ ap (λ (w : ℕ). w % 256) (zero-div (256 ^ (j % 4)))

pub byte_small : (t : List ℕ) (p j : ℕ) → byte_at t p j < 256
unfolding byte_at
byte_small t p j = mod-lt _ (omega arith)

-- a group has from 1 to 129 words
size_le : (w : ℕ) → size_of w ≤ 129
unfolding size_of
size_le w = go (eqb (w / 268435456 % 16) 1) (eqb (w / 268435456 % 16) 2)
  where
    go : (p q : Bool) → cond p (3 + (w / 65536 % 256 + 3) / 4) (cond q (1 + (w / 256 % 256 + 3) / 4 + (w % 256 + 3) / 4) 1) ≤ 129
    go true q = omega arith
    go false true = omega arith
    go false false = omega arith

pub size_small : (s w : ℕ) → s ≡ size_of w → s ≤ 129
size_small s w e = omega (arith, size_le w)

pub size_pos : (w : ℕ) → 0 < size_of w
unfolding size_of
size_pos w = go (eqb (w / 268435456 % 16) 1) (eqb (w / 268435456 % 16) 2)
  where
    go : (p q : Bool) → 0 < cond p (3 + (w / 65536 % 256 + 3) / 4) (cond q (1 + (w / 256 % 256 + 3) / 4 + (w % 256 + 3) / 4) 1)
    go true q = omega arith
    go false true = omega arith
    go false false = omega arith

-- scans over the groups of a list, for any size of groups that is never 0
module _ (size : ℕ → ℕ) where
  -- r is the head places from i to the end of the list: what a scan has before it
  pub record Scan (t : List ℕ) (i : ℕ) (r : List ℕ) : Type 0 where
    pub most : ℕ
    pub enough : length t ≤ i + most
    pub is : r ≡ heads_from size t i most

  -- the next head, and what is left behind it
  pub record Onward (t : List ℕ) (i : ℕ) (r : List ℕ) : Type 0 where
    pub left : List ℕ
    pub here : r ≡ i ∷ left
    pub then : Scan t (i + size (word t i)) left

  pub scan_all : (t : List ℕ) → Scan t 0 (heads_from size t 0 (length t))
  scan_all t = record { most = length t; enough = omega arith; is = refl }

  pub scan_end : (t : List ℕ) (i : ℕ) (r : List ℕ) → Scan t i r → length t ≤ i → r ≡ []
  unfolding heads_from
  scan_end t i r h l = h.is ∙ go h.most
    where
      go : (n : ℕ) → heads_from size t i n ≡ []
      go zero = refl
      go (suc n) = simp (le-ltb i (length t) l)

  module _ (pos : (w : ℕ) → 0 < size w) where
    pub scan_next : (t : List ℕ) (i : ℕ) (r : List ℕ) → Scan t i r → i < length t → Onward t i r
    unfolding heads_from
    scan_next t i r h l = go h.most h.enough h.is
      where
        go : (n : ℕ) → length t ≤ i + n → r ≡ heads_from size t i n → Onward t i r
        go zero k e = absurd (omega arith)
        go (suc n) k e = record {
          left = heads_from size t (i + size (word t i)) n;
          here = e ∙ simp (lt-ltb i (length t) l);
          then = record { most = n; enough = omega (arith, pos (word t i)); is = refl };
        }

    same_heads : (t : List ℕ) (n m i : ℕ) → length t ≤ i + n → length t ≤ i + m → heads_from size t i n ≡ heads_from size t i m
    unfolding heads_from
    same_heads t zero zero i p q = refl
    same_heads t zero (suc m) i p q = simp (le-ltb i (length t) (omega arith))
    same_heads t (suc n) zero i p q = simp (le-ltb i (length t) (omega arith))
    same_heads t (suc n) (suc m) i p q =
        ap (λ (z : List ℕ). cond (ltb i (length t)) (i ∷ z) [])
        (same_heads t n m (i + size (word t i)) (omega (arith, pos (word t i))) (omega (arith, pos (word t i))))

    -- two scans that stand at one place have the same before them
    pub scan_same : (t : List ℕ) (i : ℕ) (r s : List ℕ) → Scan t i r → Scan t i s → r ≡ s
    scan_same t i r s h k = h.is ∙ same_heads t h.most k.most i h.enough k.enough ∙ sym k.is

-- the same for description groups
abbrev pub Rest : List ℕ → ℕ → List ℕ → Type 0
Rest t i r = Scan size_of t i r

abbrev pub Next : List ℕ → ℕ → List ℕ → Type 0
Next t i r = Onward size_of t i r

pub rest_all : (t : List ℕ) → Rest t 0 (heads t)
rest_all t = scan_all size_of t

pub rest_end : (t : List ℕ) (i : ℕ) (r : List ℕ) → Rest t i r → length t ≤ i → r ≡ []
rest_end t i r h l = scan_end size_of t i r h l

pub rest_next : (t : List ℕ) (i : ℕ) (r : List ℕ) → Rest t i r → i < length t → Next t i r
rest_next t i r h l = scan_next size_of size_pos t i r h l

pub rest_same : (t : List ℕ) (i : ℕ) (r s : List ℕ) → Rest t i r → Rest t i s → r ≡ s
rest_same t i r s h k = scan_same size_of size_pos t i r s h k
