-- For contracts of private functions: digits by bits. Assumes nothing.
use Rattle.std.specs.Prelude.{ℕ, cond, ltb}

-- bit b % 64 is set where byte b is a digit
unfoldable pub digit_bits : ℕ → ℕ
digit_bits b = cond (ltb b 64) 0x03ff000000000000 (cond (ltb b 128) 0x0000007e0000007e 0)
