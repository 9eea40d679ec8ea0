-- For contracts of private functions: closures. Assumes nothing.
use Rattle.std.specs.Prelude.{ℕ, Bool, ◌<◌, ◌≡◌}

-- what a function of one byte may answer is what p says
abbrev pub Tests : (ℕ → Bool → Type 0) → (ℕ → Bool) → Type 0
Tests post p = (b : ℕ) (r : Bool) → b < 256 → post b r → r ≡ p b
