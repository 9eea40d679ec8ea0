-- For the contracts of private functions only: lines in the columns that the kernel prints. No promise to a caller rests on these. Assumes nothing.
use Rattle.std.specs.Prelude.{ℕ, ◌+◌, ◌-◌, ◌*◌, ◌/◌, ◌%◌, ◌<◌, ◌≤◌, ◌≡◌, true, List, [], ◌∷◌, ◌++◌, length, get_or, take, drop, None, Ok, Option, Some}
use Rattle.util.specs.Number.{value_of, are_digits, hex_number, decimal_number}
use Rattle.scan.specs.Scan.{is_line_feed, place_from, tokens}
use Rattle.columns.specs.declared.Front.{Front}
use Rattle.register.specs.Line.{max16, meaning}
use Rattle.columns.specs.Lines.{MetAt}
use Rattle.register.specs.declared.Register.{Register}
use Rattle.columns.specs.declared.LineAt.{LineAt}

-- above any number of eight digits: what stands for bytes that aren't all digits
abbrev pub no_digits : ℕ
no_digits = 0x100000000

-- eight bytes as one number, the first lowest
abbrev pub packed : ℕ → ℕ → ℕ → ℕ → ℕ → ℕ → ℕ → ℕ → ℕ
packed a b c d e f g h = a + 256 * (b + 256 * (c + 256 * (d + 256 * (e + 256 * (f + 256 * (g + 256 * h))))))

-- eight numbers of at most m, one a byte
pub record Lanes (m x : ℕ) : Type 0 where
  pub a : ℕ
  pub b : ℕ
  pub c : ℕ
  pub d : ℕ
  pub e : ℕ
  pub f : ℕ
  pub g : ℕ
  pub h : ℕ
  pub most : (a ≤ m) × (b ≤ m) × (c ≤ m) × (d ≤ m) × (e ≤ m) × (f ≤ m) × (g ≤ m) × (h ≤ m)
  pub is : x ≡ packed a b c d e f g h

-- eight digits as one number, the first highest
abbrev pub written : ℕ → ℕ → ℕ → ℕ → ℕ → ℕ → ℕ → ℕ → ℕ
written a b c d e f g h = ((((((a * 16 + b) * 16 + c) * 16 + d) * 16 + e) * 16 + f) * 16 + g) * 16 + h

-- eight numbers below 16, one a byte, are the digits of r
pub record Joined (x r : ℕ) : Type 0 where
  pub joins : (l : Lanes 15 x) → r ≡ written l.a l.b l.c l.d l.e l.f l.g l.h

-- hexadecimal digits that come to v
pub record Digits (w : List ℕ) (v : ℕ) : Type 0 where
  pub all_digits : are_digits 16 w ≡ true
  pub value_is : value_of 16 0 w ≡ v

-- eight bytes as one number are digits that come to v
pub record Spells (w v : ℕ) : Type 0 where
  pub spells : (a b c d e f g h : ℕ) → a < 256 → b < 256 → c < 256 → d < 256 → e < 256 → f < 256 → g < 256 → h < 256 → w ≡ packed a b c d e f g h → Digits (a ∷ b ∷ c ∷ d ∷ e ∷ f ∷ g ∷ h ∷ []) v

-- four digits at i, two at j and two at k, as one number
pub record Parted (s : List ℕ) (i j k v : ℕ) : Type 0 where
  pub four : Digits (take 4 (drop i s)) (v / 65536)
  pub two : Digits (take 2 (drop j s)) (v / 256 % 256)
  pub last : Digits (take 2 (drop k s)) (v % 256)

-- `0x` at place i
pub record Prefix (s : List ℕ) (i : ℕ) : Type 0 where
  pub zero_there : get_or s i 0 ≡ 48
  pub x_there : get_or s (i + 1) 0 ≡ 120

-- places i up to k hold the tokens ts, a separator at the end, and no LF
pub record Run (s : List ℕ) (i k : ℕ) (ts : List (List ℕ)) : Type 0 where
  pub ordered : i ≤ k
  pub cut : (m : ℕ) → k + m ≤ length s → tokens (take (k - i + m) (drop i s)) ≡ ts ++ tokens (take m (drop k s))
  pub same_line : place_from is_line_feed s i ≡ place_from is_line_feed s k

-- LF or the end stands n bytes after i
pub record Ends (s : List ℕ) (i n : ℕ) : Type 0 where
  pub within : i + n ≤ length s
  pub stops_there : place_from is_line_feed s (i + n) ≡ i + n

-- offset, relative offset, cap id and a separator, from i on; two digits at k
pub record FrontAt (s : List ℕ) (i k : ℕ) (f : Front) : Type 0 where
  pub first : get_or s i 0 ≡ 48
  pub token0 : List ℕ
  pub token1 : List ℕ
  pub token2 : List ℕ
  pub run : Run s i (i + 17) (token0 ∷ token1 ∷ token2 ∷ [])
  pub offset_is : hex_number max16 token0 ≡ Some f.offset
  pub relative_is : decimal_number max16 token1 ≡ Some f.relative_offset
  pub cap_is : hex_number max16 token2 ≡ Some f.cap_id
  pub vs_is : Digits (take 2 (drop k s)) f.vs_cap_id
  pub vs_small : f.vs_cap_id ≤ 255

unfoldable pub FrontsAt : List ℕ → ℕ → ℕ → Option Front → Type 0
FrontsAt s i k (Some f) = FrontAt s i k f
FrontsAt s i k None = Unit {0}

-- the line of n bytes from i on, where it is read by its columns
unfoldable pub ColumnsAt : List ℕ → ℕ → ℕ → Option Register → Type 0
ColumnsAt s i n (Some r) = (i + n ≡ place_from is_line_feed s i) × (Ok r ≡ meaning (take n (drop i s)))
ColumnsAt s i n None = Unit {0}

unfoldable pub QuickAt : List ℕ → ℕ → Option LineAt → Type 0
QuickAt s i (Some l) = MetAt s i l
QuickAt s i None = Unit {0}
