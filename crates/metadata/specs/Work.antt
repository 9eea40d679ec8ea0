-- For the contracts of private functions only: what stands at a place. No promise to a caller rests on it. Assumes nothing.
use Rattle.std.specs.Prelude.{ℕ, Bool, cond, List, Option, None, Some}
use Rattle.layout.specs.Description.{Description, described}

-- the description at a place of the words, where one stands there
unfoldable pub standing : Bool → List ℕ → ℕ → Option Description
standing b t p = cond b (Some (described t p)) None
