-- For the contract of a private function only. No promise to a caller rests on it. Assumes nothing.
use Rattle.std.specs.Prelude.{ℕ, ◌+◌, ◌≤◌, ◌<◌, ◌≡◌, cond, List, ltb, length, None, Some}
use Rattle.listing.specs.After.{after, register_at}
use Rattle.state.specs.State.{by_offset}

-- r is where the register that by_offset finds has its group, or the length
pub record OffsetAt (t : List ℕ) (from o r : ℕ) : Type 0 where
  pub room : r < length t → r + 4 ≤ length t
  pub found : by_offset o (after t from).registers ≡ cond (ltb r (length t)) (Some (register_at t r)) None
