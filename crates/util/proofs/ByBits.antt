-- A digit by its bits is the digit: a test at each byte, which antt computes. Assumes nothing.
use Prim.Native.Nat.{ℕ, zero, suc, ◌+◌, ◌*◌, ◌/◌, ◌%◌, ◌^◌, ◌<◌}
use native.Mathlib.Omega.{arith}
use native.Mathlib.Decide.{dec_lt}
use mathlib.Core.Path.{◌≡◌, refl, sym, ap, ◌∙◌}
use mathlib.Core.Bool.{Bool, true, false, cond, false≢true}
use lib.Dec.{eqb}
use borrow.Author.Tests.{eq-eqb, ne_eqb, eqb-true}
use Rattle.util.specs.Number.{digit_of}
use Rattle.util.specs.Work.{digit_bits}

unfoldable by_bits : ℕ → ℕ
by_bits b = cond (eqb (digit_bits b / 2 ^ (b % 64) % 2) 1) (b % 16 + 9 * (b / 64)) 16

-- a test that passes at each number below n
unfoldable passes : (ℕ → Bool) → ℕ → Bool
passes f zero = true
passes f (suc n) = cond (f n) (passes f n) false

passed : (f : ℕ → Bool) (n : ℕ) → passes f n ≡ true → (k : ℕ) → k < n → f k ≡ true
unfolding passes
passed f zero e k h = absurd (omega (arith, h))
passed f (suc n) e k h = go (f n) refl e (λ z. passed f n z k)
  where
    go : (b : Bool) → f n ≡ b → cond b (passes f n) false ≡ true → (passes f n ≡ true → k < n → f k ≡ true) → f k ≡ true
    go false g z later = absurd (false≢true z)
    go true g z later = at (dec_lt k n)
      where
        at : Dec (k < n) → f k ≡ true
        at (yes l) = later z l
        at (no l) = ap f (let q : k ≡ n = omega arith in q) ∙ g

unfoldable right : ℕ → Bool
right k = eqb (by_bits k) (digit_of k)

by_bits_lem : (b : ℕ) → b < 256 → by_bits b ≡ digit_of b
unfolding by_bits right passes digit_bits digit_of
by_bits_lem b h = eqb-true (by_bits b) (digit_of b) (passed right 256 refl b h)

module _ (b : ℕ) (h : b < 256) (k : ℕ) (e : k ≡ b) (m : ℕ) (f : m ≡ digit_bits b) where
  tested : digit_bits b / 2 ^ (b % 64) % 2 ≡ m / 2 ^ (k % 64) % 2
  tested = ap (λ x. x / 2 ^ (b % 64) % 2) (sym f) ∙ ap (λ x. m / 2 ^ (x % 64) % 2) (sym e)

  pub digit_by : m / 2 ^ (k % 64) % 2 ≡ 1 → k % 16 + 9 * (k / 64) ≡ digit_of b
  unfolding by_bits
  digit_by z = ap (λ x. x % 16 + 9 * (x / 64)) e ∙ sym (ap (λ t. cond t (b % 16 + 9 * (b / 64)) 16) (eq-eqb _ 1 (tested ∙ z))) ∙ by_bits_lem b h

  pub no_digit_by : (m / 2 ^ (k % 64) % 2 ≡ 1 → ⊥) → 16 ≡ digit_of b
  unfolding by_bits
  no_digit_by z = sym (ap (λ t. cond t (b % 16 + 9 * (b / 64)) 16) (ne_eqb _ 1 (λ q. z (sym tested ∙ q)))) ∙ by_bits_lem b h
