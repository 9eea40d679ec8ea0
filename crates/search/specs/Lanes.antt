-- Whether an adapter is a lane. Assumes nothing.
use Rattle.std.specs.Prelude.{ℕ, ◌<◌, ◌≡◌, Bool, List, length, get_or, Option, None, Some}
use Rattle.adapter.specs.Adapter.{AdapterRow, is_lane}
use Rattle.tables.specs.Rows.{adapter_in}
use Rattle.tables.specs.Packed.{adapter_word, adapters_in, adapter_unit, Sorted}

unfoldable pub lane_if : Option AdapterRow → Option Bool
lane_if None = None
lane_if (Some y) = Some (is_lane y.kind)

-- In a table whose keys don't fall it is what the first adapter with the number is. In any other it is free whether one is found; one that is found stands in the table.
pub record LaneSought (t : List ℕ) (p a : ℕ) (r : Option Bool) : Type 0 where
  pub first : p < 65536 → Sorted adapter_unit t → r ≡ lane_if (adapter_in (adapters_in t) p a)
  pub past : 65535 < p → r ≡ None
  pub held : (b : Bool) → r ≡ Some b → (k : ℕ) × (k < length t) × ((adapter_word (get_or t k 0)).device ≡ p) × ((adapter_word (get_or t k 0)).number ≡ a) × (is_lane (adapter_word (get_or t k 0)).kind ≡ b)
