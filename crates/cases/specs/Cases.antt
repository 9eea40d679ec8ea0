-- Cases of stored answers: the bytes and the words of a line, how many lines agree, and what is printed of that. Assumes nothing.
use Rattle.std.specs.Prelude.{ℕ, zero, suc, ◌+◌, ◌-◌, ◌/◌, ◌%◌, ◌≡◌, ◌<◌, ◌≤◌, Bool, true, false, cond, ◌&&◌, List, [], ◌∷◌, ◌++◌, eqb, leb, ltb, length, get_or, Option, None, Some}
use Rattle.std.specs.Io.KnownBytes.{Consumes, IsAtEnd}
use Rattle.std.specs.Fmt.{decimal}
use Rattle.std.specs.List.{concat}
use Rattle.util.specs.Number.{hex_number}
use Rattle.util.specs.Text.{bytes_of}
use Rattle.scan.specs.Scan.{lines}
use Rattle.cases.specs.declared.totals.Totals.{Totals}

-- these at the front of a list, as far as it goes
unfoldable pub put : List ℕ → List ℕ → List ℕ
put [] out = out
put (w ∷ ws) [] = []
put (w ∷ ws) (o ∷ out) = w ∷ put ws out

-- a number before others; where there is none, nothing comes
abbrev pub then_numbers : Option ℕ → List ℕ → List ℕ
then_numbers None ws = []
then_numbers (Some w) ws = w ∷ ws

abbrev pub and_number : Option ℕ → Bool → Bool
and_number None b = false
and_number (Some w) b = b

-- the bytes of pairs of hex digits, up to the first that is none
unfoldable pub pairs_of : List ℕ → List ℕ
pairs_of [] = []
pairs_of (h ∷ []) = []
pairs_of (h ∷ l ∷ s) = then_numbers (hex_number 255 (h ∷ l ∷ [])) (pairs_of s)

unfoldable pub are_pairs : List ℕ → Bool
are_pairs [] = true
are_pairs (h ∷ []) = false
are_pairs (h ∷ l ∷ s) = and_number (hex_number 255 (h ∷ l ∷ [])) (are_pairs s)

-- whether there are whole pairs, and room for them
unfoldable pub fit : List ℕ → ℕ → Bool
fit s room = eqb (length s % 2) 0 && leb (length s / 2) room

unfoldable pub pairs_put : List ℕ → ℕ → List ℕ
pairs_put s room = cond (fit s room) (pairs_of s) []

-- how many, if all are pairs and there is room for them
unfoldable pub pairs_in : List ℕ → ℕ → Option ℕ
pairs_in s room = cond (fit s room && are_pairs s) (Some (length s / 2)) None

-- `-` is an input of no bytes
unfoldable pub no_input : List ℕ → Bool
no_input s = eqb (length s) 1 && eqb (get_or s 0 0) 45

unfoldable pub input_put : List ℕ → ℕ → List ℕ
input_put s room = cond (no_input s) [] (pairs_put s room)

unfoldable pub input_in : List ℕ → ℕ → Option ℕ
input_in s room = cond (no_input s) (Some 0) (pairs_in s room)

-- the numbers of tokens, up to the first that is none of 32 bits
unfoldable pub numbers_of : List (List ℕ) → List ℕ
numbers_of [] = []
numbers_of (t ∷ ts) = then_numbers (hex_number 4294967295 t) (numbers_of ts)

unfoldable pub are_numbers : List (List ℕ) → Bool
are_numbers [] = true
are_numbers (t ∷ ts) = and_number (hex_number 4294967295 t) (are_numbers ts)

-- how many, if all are numbers and there is room for them
unfoldable pub numbers_in : List (List ℕ) → ℕ → Option ℕ
numbers_in ts room = cond (are_numbers ts && leb (length ts) room) (Some (length ts)) None

-- f 0, f 1, .. up to n of them
unfoldable pub each : (ℕ → ℕ) → ℕ → List ℕ
each f zero = []
each f (suc n) = each f n ++ f n ∷ []

-- a list's length, if there is room for it, and its words: those that follow, again and again
unfoldable pub listed_in : List ℕ → ℕ → Option ℕ
listed_in [] room = None
listed_in (n ∷ ws) room = cond (leb n room) (Some n) None

unfoldable pub listed : List ℕ → ℕ → List ℕ
listed [] room = []
listed (n ∷ ws) room = cond (leb n room) (each (λ i. get_or ws (i % length ws) 0) n) []

abbrev pub no_cases : Totals
no_cases = record { cases = 0; differ = 0; first = 0 }

-- one case more, which agrees or differs
unfoldable pub one_more : Totals → Bool → Totals
one_more t true = record { cases = t.cases + 1; differ = t.differ; first = t.first }
one_more t false = record { cases = t.cases + 1; differ = t.differ + 1; first = cond (eqb t.differ 0) (t.cases + 1) t.first }

-- t' are the totals after these lines of a text of n bytes, of which what P allows was answered, one after another, from a on to z; LF ends a line where a byte follows it
abbrev pub Counts : {S : Type 0} → (S → List ℕ → Bool → Bool → S → Type 0) → S → List (List ℕ) → ℕ → Totals → S → Totals → Type 0
Counts P a [] n t z t' = (z ≡ a) × (t' ≡ t)
Counts {S} P a (l ∷ ls) n t z t' = (b : Bool) × (m : S) × P a l (ltb (length l) n) b m × Counts P m ls (n - (length l + 1)) (one_more t b) z t'

-- what is printed of a file that isn't there, and of one that is too long
unfoldable pub missing_line : List ℕ → List ℕ
missing_line name = name ++ bytes_of " missing\n"

unfoldable pub long_line : List ℕ → List ℕ
long_line name = name ++ bytes_of " too long\n"

-- a name, how many cases, how many agree and differ, and the first that differs
unfoldable pub totals_line : List ℕ → Totals → List ℕ
totals_line name t = concat (name ∷ bytes_of " " ∷ decimal t.cases ∷ bytes_of " agree " ∷ decimal (t.cases - t.differ) ∷ bytes_of " differ " ∷ decimal t.differ ∷ bytes_of " at " ∷ decimal t.first ∷ bytes_of "\n" ∷ [])

-- what is printed of a file of which these bytes are known: they are read, and each line is a case
pub record Replayed {S : Type 0} (P : S → List ℕ → Bool → Bool → S → Type 0) (a z : S) (name : List ℕ) (known : Option (List ℕ)) (Prints : List ℕ → Type 0) : Type 0 where
  pub text : List ℕ
  pub rest : Option (List ℕ)
  pub read : Consumes known rest text
  pub whole : length text < 1000000 → IsAtEnd rest × ((t : Totals) × Counts P a (lines text) (length text) no_cases z t × Prints (totals_line name t))
  pub long : 1000000 ≤ length text → (z ≡ a) × Prints (long_line name)
