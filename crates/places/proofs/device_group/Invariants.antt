use Prim.Native.Nat.{◌≤◌, ◌<◌, ◌+◌}
use mathlib.Core.Path.{◌≡◌}
use mathlib.Core.List.{◌∷◌}
use lib.ListN.{length, drop}
use Rattle.survey.specs.Places.{device_heads}
use Rattle.survey.specs.Work.{heads_at}
use Rattle.places.proofs.device_group.Given as goal

abbrev pub invariant-loop : goal.invariant-loop
invariant-loop l = (drop l.counter (device_heads l.survey) ≡ heads_at l.survey l.at) × (l.at < length l.survey → heads_at l.survey l.at ≡ l.at ∷ heads_at l.survey (l.at + 4)) × (l.at < length l.survey → l.at + 4 ≤ length l.survey)
