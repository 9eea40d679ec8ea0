-- For the contract of a private function only: the test of one group. No promise to a caller rests on it. Assumes nothing.
use Rattle.std.specs.Prelude.{ℕ, Bool, ◌&&◌, List}
use Rattle.layout.specs.Layout.{is_register}
use Rattle.layout.specs.Description.{described}
use Rattle.naming.specs.Naming.{fits}
use Rattle.naming.specs.declared.Sought.{Sought}

-- the group at i is a register that is left
unfoldable pub candidate : List ℕ → Sought → ℕ → Bool
candidate t q i = is_register t i && fits q (described t i)
