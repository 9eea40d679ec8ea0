-- Laws on depths. Assumes nothing.
use Rattle.std.specs.Prelude.{None, Some}
use Prim.Native.Nat.{ℕ, zero, suc, ◌+◌, ◌-◌, ◌*◌, ◌/◌, ◌%◌, ◌^◌, ◌<◌, ◌≤◌}
use Rattle.std.specs.Int.{div_ceil}
use Rattle.std.proofs.lemmas.Bool.{cases_lt}
use Rattle.std.proofs.lemmas.Nat.{leading_length}
use lib.Count.{count_leading_zeros}
use native.Mathlib.Omega.{arith}
use native.Mathlib.Nat.{div-lt_iff_lt-mul, mul-le-mul_right}
use mathlib.Core.Path.{◌≡◌, refl, ◌∙◌, ap, sym, subst}
use mathlib.Core.Logic.{⊎_elim}
use mathlib.Core.Bool.{Bool, true, false, cond, ◌&&◌}
use lib.Dec.{eqb}
use lib.Pow.{pow-add, pow_pos, pow_mono}
use borrow.Author.Tests.{eq-eqb, ne_eqb, eqb-true}
use Rattle.util.proofs.Laws.{and_false}
use Rattle.route.specs.Route.{used_bytes, depth_of, upstream_route, downstream_route, adapter_beneath}

-- what is left of a route after d bytes
module _ (k r : ℕ) where
  pub bytes_none : r < 1 → used_bytes (suc k) r ≡ 0
  unfolding used_bytes
  bytes_none h = simp (eq-eqb r 0 (omega arith))

  pub bytes_more : 1 ≤ r → used_bytes (suc k) r ≡ suc (used_bytes k (r / 256))
  unfolding used_bytes
  bytes_more h = simp (ne_eqb r 0 (λ e. omega arith))

-- a number r of m binary digits, and what is left of it without its lowest byte
module _ (r m : ℕ) (a : r < 2 ^ m) (b : 2 ^ m ≤ 2 * r + 1) where
  bits_left : (r / 256 < 2 ^ (m - 8)) × (2 ^ (m - 8) ≤ 2 * (r / 256) + 1)
  bits_left = ⊎_elim
      (λ z. let e : m - 8 ≡ 0 = omega arith in let n = pow_mono {i = m} {j = 8} (omega arith) in rw e (omega (arith, n), omega arith))
      (λ z. let e : 2 ^ m ≡ 2 ^ (m - 8) * 256 = ap (λ n. 2 ^ n) (let n : m ≡ (m - 8) + 8 = omega arith in n) ∙ pow-add 2 (m - 8) 8 in (omega (arith, e), omega (arith, e)))
      (cases_lt m 8)

  no_bits : r < 1 → m ≡ 0
  no_bits h = ⊎_elim (λ z. omega arith) (λ z. absurd (omega (arith, pow_mono {i = 1} {j = m} z))) (cases_lt m 1)

  some_bits : 1 ≤ r → 1 ≤ m
  some_bits h = ⊎_elim (λ z. let e : m ≡ 0 = omega arith in let n : r < 2 ^ 0 = subst (λ n. r < 2 ^ n) e a in absurd (omega (arith, n))) (λ z. z) (cases_lt m 1)

-- it has the bytes that hold its digits
pub bytes_of_bits : (k r m : ℕ) → m ≤ 8 * k → r < 2 ^ m → 2 ^ m ≤ 2 * r + 1 → used_bytes k r ≡ div_ceil m 8
unfolding used_bytes
bytes_of_bits zero r m l a b = omega arith
bytes_of_bits (suc k) r m l a b =
    let n = bits_left r m a b in
    ⊎_elim
    (λ h. bytes_none k r h ∙ omega (arith, no_bits r m a b h))
    (λ h. bytes_more k r h ∙ ap suc (bytes_of_bits k (r / 256) (m - 8) (omega arith) n.0 n.1) ∙ omega (arith, some_bits r m a b h))
    (cases_lt r 1)

pub depth_by_bits : (r : ℕ) → r < 2 ^ 64 → depth_of r ≡ div_ceil (64 - count_leading_zeros 64 r) 8
unfolding depth_of
depth_by_bits r h =
    let n = leading_length 64 r h in
    let e : 64 - count_leading_zeros 64 r ≡ n.0 = omega (arith, n.1) in
    bytes_of_bits 8 r n.0 (omega (arith, n.1)) n.2 n.3 ∙ sym (ap (λ m. div_ceil m 8) e)

pub bytes_le : (k r : ℕ) → used_bytes k r ≤ k
unfolding used_bytes
bytes_le zero r = omega arith
bytes_le (suc k) r = step (eqb r 0) (bytes_le k (r / 256))
  where
    step : (t : Bool) → used_bytes k (r / 256) ≤ k → cond t 0 (suc (used_bytes k (r / 256))) ≤ suc k
    step true h = omega arith
    step false h = omega arith

pub depth_le : (r : ℕ) → depth_of r ≤ 8
unfolding depth_of
depth_le r = bytes_le 8 r

next_byte : (b : ℕ) → 2 ^ (8 * b) * 256 ≡ 2 ^ (8 * suc b)
next_byte b = let e : 8 * b + 8 ≡ 8 * suc b = omega arith in
    sym (pow-add 2 (8 * b) 8) ∙ ap (λ n. 2 ^ n) e

-- a route is below the byte of its depth
below : (k r : ℕ) → r < 2 ^ (8 * k) → r < 2 ^ (8 * used_bytes k r)
unfolding used_bytes
below zero r h = h
below (suc k) r h = step (eqb r 0) refl (below k (r / 256) ((div-lt_iff_lt-mul (omega arith)).1 (subst (λ n. r < n) (sym (next_byte k)) h)))
  where
    step : (t : Bool) → eqb r 0 ≡ t → r / 256 < 2 ^ (8 * used_bytes k (r / 256)) → r < 2 ^ (8 * cond t 0 (suc (used_bytes k (r / 256))))
    step true e ih = omega (arith, eqb-true r 0 e)
    step false e ih = subst (λ n. r < n) (next_byte (used_bytes k (r / 256))) ((div-lt_iff_lt-mul (omega arith)).0 ih)

pub below_depth : (r : ℕ) → r < 2 ^ 64 → r < 2 ^ (8 * depth_of r)
unfolding depth_of
below_depth r h = below 8 r h

-- the answers, by the depth and the unit that the code has
module _ (r d : ℕ) (deep : d ≡ depth_of r) where
  pub up_none : d < 1 → upstream_route r ≡ None
  unfolding upstream_route
  up_none h = simp (eq-eqb (depth_of r) 0 (omega arith))

  pub up_some : (u : ℕ) → 1 ≤ d → u ≡ 2 ^ (8 * (d - 1)) → upstream_route r ≡ Some (r % u)
  unfolding upstream_route
  up_some u h e = simp (ne_eqb (depth_of r) 0 (λ z. omega arith)) (ap (λ n. Some (r % 2 ^ (8 * (n - 1)))) (sym deep) ∙ ap (λ n. Some (r % n)) (sym e))

  pub down_none : (a : ℕ) → 8 ≤ d → downstream_route r a ≡ None
  unfolding downstream_route
  down_none a h = simp (eq-eqb (depth_of r) 8 (omega (arith, depth_le r)))

  module _ (u : ℕ) (shallow : d < 8) (e : u ≡ 2 ^ (8 * d)) where
    pub down_some : (a : ℕ) → downstream_route r a ≡ Some (r + a * u)
    unfolding downstream_route
    down_some a = simp (ne_eqb (depth_of r) 8 (λ z. omega arith)) (ap (λ n. Some (r + a * 2 ^ (8 * n))) (sym deep) ∙ ap (λ n. Some (r + a * n)) (sym e))

    -- one byte more still fits a route
    pub down_room : (a : ℕ) → a < 256 → r < 2 ^ 64 → (a * u < 2 ^ 64) × (r + a * u < 2 ^ 64)
    down_room a b s =
        let f : r < u = subst (λ n. r < n) (ap (λ n. 2 ^ (8 * n)) (sym deep) ∙ sym e) (below_depth r s) in
        let m : a * u ≤ 255 * u = mul-le-mul_right u (omega arith) in
        let n : u * 256 ≤ 2 ^ 64 = subst (λ x. x * 256 ≤ 2 ^ 64) (sym e) (subst (λ x. x ≤ 2 ^ 64) (sym (next_byte d)) (pow_mono {i = 8 * suc d} {j = 64} (omega arith))) in
        (omega arith, omega arith)

    pub unit_pos : 0 < u
    unit_pos = subst (λ n. 0 < n) (sym e) (pow_pos (8 * d))

    module _ (device d' : ℕ) (deep' : d' ≡ depth_of device) where
      here : adapter_beneath r device ≡ cond (eqb d' (d + 1) && eqb r (device % u)) (Some (device / u % 256)) None
      unfolding adapter_beneath
      here = simp (e, deep, deep')

      pub adapter_route : (r ≡ device % u → ⊥) → adapter_beneath r device ≡ None
      adapter_route n = here ∙ simp (ne_eqb r (device % u) n, and_false)

      pub adapter_some : d' ≡ d + 1 → r ≡ device % u → adapter_beneath r device ≡ Some (device / u % 256)
      adapter_some f g = here ∙ simp (eq-eqb d' (d + 1) f, eq-eqb r (device % u) g)

  pub adapter_depth : (device d' : ℕ) → d' ≡ depth_of device → (d' ≡ d + 1 → ⊥) → adapter_beneath r device ≡ None
  unfolding adapter_beneath
  adapter_depth device d' f n = simp (ne_eqb (depth_of device) (depth_of r + 1) (λ z. n (f ∙ z ∙ ap (λ m. m + 1) (sym deep))))

  pub adapter_deep : (device : ℕ) → 8 ≤ d → adapter_beneath r device ≡ None
  adapter_deep device h = adapter_depth device (depth_of device) refl (λ z. omega (arith, depth_le device))
