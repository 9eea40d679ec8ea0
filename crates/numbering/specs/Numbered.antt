-- The numbers of a device's adapters. Assumes nothing.
use Rattle.std.specs.Prelude.{ℕ, suc, Bool, ◌&&◌, List, [], ◌∷◌, ltb, eqb}
use Rattle.survey.specs.Devices.{Adapter}

-- exactly n, n + 1, .. up to a most, in order
unfoldable pub numbered : ℕ → ℕ → List Adapter → Bool
numbered n most [] = eqb n (suc most)
numbered n most (a ∷ rest) = eqb a.number n && ltb n (suc most) && numbered (suc n) most rest
