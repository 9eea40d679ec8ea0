-- Laws of markers. Assumes nothing.
use Rattle.std.specs.Prelude.{None, Some}
use Prim.Native.Nat.{ℕ, ◌≤◌, ◌<◌}
use native.Mathlib.Omega.{arith}
use mathlib.Core.Path.{◌≡◌, refl, sym, ap, ◌∙◌}
use mathlib.Core.Bool.{true, false, ◌&&◌}
use mathlib.Core.List.{List, [], ◌∷◌}
use lib.Dec.{eqb}
use lib.Pointwise.{pointwise}
use lib.ListN.{length, get_or}
use borrow.Author.Tests.{le-leb, lt-leb}
use Rattle.scan.specs.Scan.{tokens}
use Rattle.scan.specs.declared.Part.{Part}
use Rattle.scan.proofs.Laws.{Firsts}
use Rattle.util.specs.Number.{hex_number, decimal_number}
use Rattle.util.specs.Text.{bytes_of}
use Rattle.util.proofs.Laws.{decimal_le}
use Rattle.markers.specs.Markers.{router, xdomain, usb4, regs, adapter, paths, no_paths, bad, same, plain_marker, adapter_by, adapter_marker, with_number, device_marker, by_tokens, marker_of}

-- what `==` says of two texts
pub same_lem : (a b : List ℕ) → pointwise eqb a b ≡ same a b
unfolding same
same_lem [] [] = refl
same_lem [] (y ∷ ys) = refl
same_lem (x ∷ xs) [] = refl
same_lem (x ∷ xs) (y ∷ ys) = ap (λ t. eqb x y && t) (same_lem xs ys)

-- a marker of one token, by the tests in their order
module _ (t : List ℕ) where
  pub is_usb4_lem : same t (bytes_of "@usb4") ≡ true → usb4 ≡ plain_marker t
  unfolding plain_marker
  is_usb4_lem e = simp e

  module _ (n1 : same t (bytes_of "@usb4") ≡ false) where
    pub is_regs_lem : same t (bytes_of "@regs") ≡ true → regs ≡ plain_marker t
    unfolding plain_marker
    is_regs_lem e = simp (n1, e)

    module _ (n2 : same t (bytes_of "@regs") ≡ false) where
      pub is_paths : same t (bytes_of "@paths") ≡ true → paths ≡ plain_marker t
      unfolding plain_marker
      is_paths e = simp (n1, n2, e)

      module _ (n3 : same t (bytes_of "@paths") ≡ false) where
        pub is_no_paths : same t (bytes_of "@nopaths") ≡ true → no_paths ≡ plain_marker t
        unfolding plain_marker
        is_no_paths e = simp (n1, n2, n3, e)

        pub is_unknown : same t (bytes_of "@nopaths") ≡ false → bad ≡ plain_marker t
        unfolding plain_marker
        is_unknown e = simp (n1, n2, n3, e)

-- a marker of two
module _ (t n : List ℕ) where
  pub no_adapter : same t (bytes_of "@adapter") ≡ false → bad ≡ adapter_marker t n
  unfolding adapter_marker
  no_adapter e = simp e

  module _ (h : same t (bytes_of "@adapter") ≡ true) where
    pub adapter_none : decimal_number 65535 n ≡ None → bad ≡ adapter_marker t n
    unfolding adapter_marker adapter_by
    adapter_none e = simp (h, e)

    module _ (v : ℕ) (e : decimal_number 65535 n ≡ Some v) where
      pub adapter_zero : v < 1 → bad ≡ adapter_marker t n
      unfolding adapter_marker adapter_by
      adapter_zero l = simp (h, e, lt-leb 1 v l)

      pub adapter_large : 1 ≤ v → 255 < v → bad ≡ adapter_marker t n
      unfolding adapter_marker adapter_by
      adapter_large l m = simp (h, e, le-leb 1 v l, lt-leb v 255 m)

      pub adapter_is : 1 ≤ v → v ≤ 255 → adapter v ≡ adapter_marker t n
      unfolding adapter_marker adapter_by
      adapter_is l m = simp (h, e, le-leb 1 v l, le-leb v 255 m)

-- a marker of three
pub domain_fits : (d : List ℕ) (m : ℕ) → decimal_number 4294967295 d ≡ Some m → m < 4294967296
domain_fits d m e = omega (arith, decimal_le 4294967295 d m e)

module _ (t d r : List ℕ) where
  pub domain_none : decimal_number 4294967295 d ≡ None → bad ≡ device_marker t d r
  unfolding device_marker with_number
  domain_none e = simp e

  module _ (m : ℕ) (em : decimal_number 4294967295 d ≡ Some m) where
    pub route_none : hex_number 18446744073709551615 r ≡ None → bad ≡ device_marker t d r
    unfolding device_marker with_number
    route_none e = simp (em, e)

    module _ (n : ℕ) (en : hex_number 18446744073709551615 r ≡ Some n) where
      pub is_router_lem : same t (bytes_of "@router") ≡ true → router m n ≡ device_marker t d r
      unfolding device_marker with_number
      is_router_lem e = simp (em, en, e)

      module _ (n1 : same t (bytes_of "@router") ≡ false) where
        pub is_xdomain_lem : same t (bytes_of "@xdomain") ≡ true → xdomain m n ≡ device_marker t d r
        unfolding device_marker with_number
        is_xdomain_lem e = simp (em, en, n1, e)

        pub no_device : same t (bytes_of "@xdomain") ≡ false → bad ≡ device_marker t d r
        unfolding device_marker with_number
        no_device e = simp (em, en, n1, e)

-- by the number of tokens
no_token : (ts : List (List ℕ)) → length ts ≤ 0 → by_tokens ts ≡ bad
unfolding by_tokens
no_token [] h = refl
no_token (t ∷ ts) h = absurd (omega arith)

one_token : (ts : List (List ℕ)) → length ts ≡ 1 → by_tokens ts ≡ plain_marker (get_or ts 0 [])
unfolding by_tokens
one_token [] h = absurd (omega arith)
one_token (t ∷ []) h = refl
one_token (t ∷ u ∷ ts) h = absurd (omega arith)

two_tokens : (ts : List (List ℕ)) → length ts ≡ 2 → by_tokens ts ≡ adapter_marker (get_or ts 0 []) (get_or ts 1 [])
unfolding by_tokens
two_tokens [] h = absurd (omega arith)
two_tokens (t ∷ []) h = absurd (omega arith)
two_tokens (t ∷ u ∷ []) h = refl
two_tokens (t ∷ u ∷ v ∷ ts) h = absurd (omega arith)

three_tokens : (ts : List (List ℕ)) → length ts ≡ 3 → by_tokens ts ≡ device_marker (get_or ts 0 []) (get_or ts 1 []) (get_or ts 2 [])
unfolding by_tokens
three_tokens [] h = absurd (omega arith)
three_tokens (t ∷ []) h = absurd (omega arith)
three_tokens (t ∷ u ∷ []) h = absurd (omega arith)
three_tokens (t ∷ u ∷ v ∷ []) h = refl
three_tokens (t ∷ u ∷ v ∷ w ∷ ts) h = absurd (omega arith)

more_tokens : (ts : List (List ℕ)) → 3 < length ts → by_tokens ts ≡ bad
unfolding by_tokens
more_tokens [] h = absurd (omega arith)
more_tokens (t ∷ []) h = absurd (omega arith)
more_tokens (t ∷ u ∷ []) h = absurd (omega arith)
more_tokens (t ∷ u ∷ v ∷ []) h = absurd (omega arith)
more_tokens (t ∷ u ∷ v ∷ w ∷ ts) h = refl

module _ {s : List ℕ} {a b c d : Part} (n : Firsts s a b c d) where
  pub marker_none : eqb (length a.text.now) 0 ≡ true → bad ≡ marker_of s
  unfolding marker_of
  marker_none h = sym (no_token (tokens s) (n.n0.missing h))

  pub marker_more : eqb (length d.text.now) 0 ≡ false → bad ≡ marker_of s
  unfolding marker_of
  marker_more h = sym (more_tokens (tokens s) (n.n3.there h))

  module _ (ha : eqb (length a.text.now) 0 ≡ false) where
    pub marker_one : eqb (length b.text.now) 0 ≡ true → plain_marker a.text.now ≡ marker_of s
    unfolding marker_of
    marker_one h = ap plain_marker n.n0.text ∙ sym (one_token (tokens s) (omega (arith, n.n0.there ha, n.n1.missing h)))

    module _ (hb : eqb (length b.text.now) 0 ≡ false) where
      pub marker_two : eqb (length c.text.now) 0 ≡ true → adapter_marker a.text.now b.text.now ≡ marker_of s
      unfolding marker_of
      marker_two h = rw (n.n0.text, n.n1.text) (sym (two_tokens (tokens s) (omega (arith, n.n1.there hb, n.n2.missing h))))

      pub marker_three : eqb (length c.text.now) 0 ≡ false → eqb (length d.text.now) 0 ≡ true → device_marker a.text.now b.text.now c.text.now ≡ marker_of s
      unfolding marker_of
      marker_three hc h = rw (n.n0.text, n.n1.text, n.n2.text) (sym (three_tokens (tokens s) (omega (arith, n.n2.there hc, n.n3.missing h))))
