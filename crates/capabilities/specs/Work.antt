-- For the contracts of private functions only. No promise to a caller rests on these. Assumes nothing.
use Rattle.std.specs.Prelude.{Option, None, Some, ℕ, List}
use Rattle.survey.specs.Devices.{Adapter}
use Rattle.listing.specs.After.{adapter_at}

unfoldable pub head_outcome : List ℕ → Option ℕ → Option Adapter
head_outcome t (Some i) = Some (adapter_at t i)
head_outcome t None = None
