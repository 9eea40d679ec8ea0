-- A program's buffers. Assumes nothing.
use Rattle.std.specs.Prelude.{ℕ, List, replicate}

-- a buffer as it is made; as a definition, so that no proof counts its bytes one by one
unfoldable pub zeros : ℕ → List ℕ
zeros n = replicate n 0
