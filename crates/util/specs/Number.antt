-- Document 01, module 1: numbers as dumps and markers write them. A width enters as its largest value. Assumes nothing.
use Rattle.std.specs.Prelude.{ℕ, ◌+◌, ◌*◌, ◌-◌, Bool, true, cond, ◌&&◌, List, [], ◌∷◌, leb, ltb, eqb, length, get_or, drop, None, Option, Some}

-- `0` to `9`, `A` to `F`, `a` to `f`; 16 for any other byte
unfoldable pub digit_of : ℕ → ℕ
digit_of b =
    cond (ltb b 48) 16
    (cond (leb b 57) (b - 48)
    (cond (ltb b 65) 16
    (cond (leb b 70) (b - 55)
    (cond (ltb b 97) 16
    (cond (leb b 102) (b - 87) 16)))))

-- one `0x` dropped if present
unfoldable pub after_prefix : List ℕ → List ℕ
after_prefix s = cond (eqb (get_or s 0 0) 48 && eqb (get_or s 1 0) 120) (drop 2 s) s

-- one `+` dropped if present
unfoldable pub after_plus : List ℕ → List ℕ
after_plus s = cond (eqb (get_or s 0 0) 43) (drop 1 s) s

-- the value of a list of digits, after those that came to acc
unfoldable pub value_of : ℕ → ℕ → List ℕ → ℕ
value_of base acc [] = acc
value_of base acc (b ∷ s) = value_of base (acc * base + digit_of b) s

unfoldable pub are_digits : ℕ → List ℕ → Bool
are_digits base [] = true
are_digits base (b ∷ s) = ltb (digit_of b) base && are_digits base s

-- the digits' value, where there is a digit, all are digits of the base, and the value is at most max
unfoldable pub number_of : ℕ → ℕ → List ℕ → Option ℕ
number_of base max s = cond (ltb 0 (length s) && are_digits base s && leb (value_of base 0 s) max) (Some (value_of base 0 s)) None

unfoldable pub hex_number : ℕ → List ℕ → Option ℕ
hex_number max s = number_of 16 max (after_plus (after_prefix s))

unfoldable pub decimal_number : ℕ → List ℕ → Option ℕ
decimal_number max s = number_of 10 max (after_plus s)
