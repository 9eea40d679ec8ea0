-- Texts in definitions. Assumes nothing.
use Rattle.std.specs.Prelude.{ℕ, List, [], ◌∷◌}
use Prim.Native.Char.{code}
use Prim.Native.String.{String, [] as end-of-text, ◌∷◌ as ◌then◌}

-- the bytes of an ASCII text
unfoldable pub bytes_of : String → List ℕ
bytes_of end-of-text = []
bytes_of (c then s) = code c ∷ bytes_of s
