-- Bit fields of a word, by division and remainder. Assumes nothing.
use Rattle.std.specs.Prelude.{ℕ, ◌+◌, ◌-◌, ◌/◌, ◌%◌, ◌^◌}

-- bits l to h of w; 0 where h is below l
unfoldable pub bits_of : ℕ → ℕ → ℕ → ℕ
bits_of w l h = w / 2 ^ l % 2 ^ (h + 1 - l)
