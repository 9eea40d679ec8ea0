-- For the contracts of private functions only. No promise to a caller rests on these. Assumes nothing.
use Rattle.std.specs.Prelude.{None, Option, Some, ℕ, ◌/◌, ◌≡◌, List}
use Rattle.adapter.specs.Adapter.{facts_row}
use Rattle.adapter.specs.declared.Facts.{Facts}
use Rattle.tables.specs.Packed.{adapter_word}
use Rattle.tables.specs.Found.{AdapterSought}

-- the word of the adapter that is sought: whatever says the same as it is that adapter
pub record WordSought (t : List ℕ) (p a : ℕ) (r : Option ℕ) : Type 0 where
  pub found : (w : ℕ) → r ≡ Some w → (f : Facts) → facts_row (w / 281474976710656) f ≡ adapter_word w → AdapterSought t p a (Some f)
  pub missing : r ≡ None → AdapterSought t p a None
