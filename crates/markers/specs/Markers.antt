-- Document 01, the program's text: markers. Assumes nothing.
use Rattle.std.specs.Prelude.{ℕ, Bool, true, false, cond, ◌&&◌, List, [], ◌∷◌, eqb, leb, get_or, None, Option, Some}
use Rattle.util.specs.Number.{hex_number, decimal_number}
use Rattle.util.specs.Text.{bytes_of}
use Rattle.scan.specs.Scan.{tokens}
use Rattle.markers.specs.declared.Mark.{Mark}
use Rattle.markers.specs.declared.Mark.TheVariants as mark

-- what a marker says; a bad one is unknown, lacks a number, has one that doesn't fit, or has tokens past its own
pub data Marker : Type 0 where
  router : ℕ → ℕ → Marker
  xdomain : ℕ → ℕ → Marker
  usb4 : Marker
  regs : Marker
  adapter : ℕ → Marker
  paths : Marker
  no_paths : Marker
  bad : Marker

-- a line whose first byte is `@`
unfoldable pub is_marker : List ℕ → Bool
is_marker s = eqb (get_or s 0 0) 64

unfoldable pub same : List ℕ → List ℕ → Bool
same [] [] = true
same [] (b ∷ t) = false
same (a ∷ s) [] = false
same (a ∷ s) (b ∷ t) = eqb a b && same s t

-- a marker of one token
unfoldable pub plain_marker : List ℕ → Marker
plain_marker t =
    cond (same t (bytes_of "@usb4")) usb4
    (cond (same t (bytes_of "@regs")) regs
    (cond (same t (bytes_of "@paths")) paths
    (cond (same t (bytes_of "@nopaths")) no_paths bad)))

-- `@adapter N`: decimal of 16 bits, 1 to 255
unfoldable pub adapter_by : Option ℕ → Marker
adapter_by None = bad
adapter_by (Some n) = cond (leb 1 n && leb n 255) (adapter n) bad

unfoldable pub adapter_marker : List ℕ → List ℕ → Marker
adapter_marker t n = cond (same t (bytes_of "@adapter")) (adapter_by (decimal_number 65535 n)) bad

-- `@router DOMAIN ROUTE`, `@xdomain` likewise: decimal of 32 bits, hex of 64
unfoldable pub with_number : Option ℕ → (ℕ → Marker) → Marker
with_number None f = bad
with_number (Some v) f = f v

unfoldable pub device_marker : List ℕ → List ℕ → List ℕ → Marker
device_marker t d r = with_number (decimal_number 4294967295 d) (λ m. with_number (hex_number 18446744073709551615 r) (λ n.
    cond (same t (bytes_of "@router")) (router m n) (cond (same t (bytes_of "@xdomain")) (xdomain m n) bad)))

unfoldable pub by_tokens : List (List ℕ) → Marker
by_tokens [] = bad
by_tokens (t ∷ []) = plain_marker t
by_tokens (t ∷ n ∷ []) = adapter_marker t n
by_tokens (t ∷ d ∷ r ∷ []) = device_marker t d r
by_tokens (t ∷ d ∷ r ∷ u ∷ us) = bad

unfoldable pub marker_of : List ℕ → Marker
marker_of s = by_tokens (tokens s)

-- what the marker reader answers
unfoldable pub marker_by : Mark → Marker
marker_by (mark.Router d r) = router d r
marker_by (mark.Xdomain d r) = xdomain d r
marker_by mark.Usb4 = usb4
marker_by mark.Regs = regs
marker_by (mark.Adapter n) = adapter n
marker_by mark.Paths = paths
marker_by mark.NoPaths = no_paths
marker_by mark.Bad = bad
