-- What the check of a name goes by: its words, four bytes each. Assumes nothing.
use Rattle.std.specs.Prelude.{ℕ, ◌+◌, ◌/◌, ◌%◌, Bool, ◌&&◌}
use Rattle.description.specs.Rules.{good_byte}

-- the four bytes of a word, which are those from byte j on of a name of n bytes
unfoldable pub good_word : ℕ → ℕ → ℕ → Bool
good_word n j w =
    good_byte n j (w % 256) && good_byte n (j + 1) (w / 256 % 256)
    && good_byte n (j + 2) (w / 65536 % 256) && good_byte n (j + 3) (w / 16777216 % 256)
