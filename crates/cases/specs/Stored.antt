-- The form in which cases are stored: an input of pairs of hex digits in lower case, words of a blank and eight such digits. Assumes nothing.
use Rattle.std.specs.Prelude.{ℕ, zero, suc, ◌+◌, ◌-◌, ◌*◌, ◌/◌, ◌%◌, Bool, cond, ◌&&◌, List, [], ◌∷◌, eqb, leb, ltb, length, get_or, take, drop, Option, None, Some, option_and_then, unwrap_or}
use Rattle.std.specs.List.{list_all}
use Rattle.cases.specs.Cases.{fit, no_input}

-- the value of a hex digit in lower case; 16 for any other byte
unfoldable pub low_digit : ℕ → ℕ
low_digit b =
    cond (ltb b 48) 16
    (cond (ltb b 58) (b - 48)
    (cond (ltb b 97) 16
    (cond (ltb b 103) (b - 87) 16)))

unfoldable pub is_low : ℕ → Bool
is_low b = ltb (low_digit b) 16

-- the byte of two digits
unfoldable pub byte_of : ℕ → ℕ → ℕ
byte_of h l = low_digit h % 16 * 16 + low_digit l % 16

unfoldable pub low_pairs : List ℕ → List ℕ
low_pairs [] = []
low_pairs (h ∷ []) = []
low_pairs (h ∷ l ∷ s) = byte_of h l ∷ low_pairs s

-- whether s is whole pairs of digits, one at least, and there is room for their bytes
unfoldable pub is_stored : List ℕ → ℕ → Bool
is_stored s room = ltb 0 (length s) && fit s room && list_all (λ b. is_low b) s

-- an input's bytes, and how many they are; `-` is an input of no bytes, and nothing is put of what is none
unfoldable pub stored_put : List ℕ → ℕ → List ℕ
stored_put s room = cond (no_input s) [] (cond (is_stored s room) (low_pairs s) [])

unfoldable pub stored_in : List ℕ → ℕ → Option ℕ
stored_in s room = cond (no_input s) (Some 0) (cond (is_stored s room) (Some (length s / 2)) None)

-- the value of the digits behind a blank
unfoldable pub word_value : List ℕ → ℕ
word_value s = byte_of (get_or s 1 0) (get_or s 2 0) * 16777216 + byte_of (get_or s 3 0) (get_or s 4 0) * 65536 + byte_of (get_or s 5 0) (get_or s 6 0) * 256 + byte_of (get_or s 7 0) (get_or s 8 0)

-- the word that the first nine bytes are, a blank and eight digits
unfoldable pub word_at : List ℕ → Option ℕ
word_at s = cond (leb 9 (length s) && (eqb (get_or s 0 0) 32 && list_all (λ b. is_low b) (take 8 (drop 1 s)))) (Some (word_value s)) None

-- what follows these words, if they stand at the front
unfoldable pub after_words : List ℕ → List ℕ → Option (List ℕ)
after_words s [] = Some s
after_words s (w ∷ ws) = option_and_then (λ v. cond (eqb v w) (after_words (drop 9 s) ws) None) (word_at s)

-- a word before others; where there is none, the first of s or 0, before those that follow it
unfoldable pub say : Option ℕ → List ℕ → List ℕ → List ℕ → List ℕ
say (Some w) s here again = w ∷ here
say None s here again = unwrap_or (word_at s) 0 ∷ again

-- so many words from a on, and from s on again where no word stands
unfoldable pub says : List ℕ → List ℕ → ℕ → List ℕ
says s a zero = []
says s a (suc n) = say (word_at a) s (says s (drop 9 a) n) (says s (drop 9 s) n)

-- a list's length, if there is room for it, and its words
unfoldable pub list_in : List ℕ → ℕ → Option ℕ
list_in s room = option_and_then (λ n. cond (leb n room) (Some n) None) (word_at s)

unfoldable pub list_words : List ℕ → Option ℕ → List ℕ
list_words s None = []
list_words s (Some n) = says (drop 9 s) (drop 9 s) n

unfoldable pub list_put : List ℕ → ℕ → List ℕ
list_put s room = list_words s (list_in s room)
