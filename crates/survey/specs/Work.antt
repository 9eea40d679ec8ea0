-- For the contract of a private function only. No promise to a caller rests on these. Assumes nothing.
use Rattle.std.specs.Prelude.{ℕ, ◌+◌, ◌≤◌, ◌<◌, ◌≡◌, List, ◌∷◌, length, drop}
use Rattle.survey.specs.Words.{groups_of}
use Rattle.survey.specs.Places.{device_heads_from}

-- the device heads from a group's place on
abbrev pub heads_at : List ℕ → ℕ → List ℕ
heads_at t i = device_heads_from i (groups_of (drop i t))

-- r is the first device head from i on, or the length
pub record NextHead (t : List ℕ) (i r : ℕ) : Type 0 where
  pub within : r ≤ length t
  pub room : r < length t → r + 4 ≤ length t
  pub same : heads_at t i ≡ heads_at t r
  pub head : r < length t → heads_at t r ≡ r ∷ heads_at t (r + 4)
