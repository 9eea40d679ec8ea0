-- What document 01's worked input counts. Assumes nothing.
use Prim.Native.Nat.{ℕ}
use mathlib.Core.Path.{◌≡◌, ap}
use mathlib.Core.List.{List}
use lib.ListN.{length}
use Rattle.refusal.specs.Outcome.{value, bind}
use Rattle.description.specs.Rules.{read_descriptions}
use Rattle.metadata.specs.Ours.{ours}
use Rattle.load.specs.Loading.{valid_entries}
use Rattle.load.proofs.Example.{example, example_rows, loads}
use Rattle.acceptance.specs.Accepted.{accepted_answer}

pub counts : (t : List ℕ) → read_descriptions t ≡ value ours → accepted_answer t example ≡ value (record { devices = 2; entries = 4 })
unfolding accepted_answer bind example_rows
counts t e = ap (λ o. bind o (λ x. value (record { devices = length x.devices; entries = valid_entries x }))) (loads t e)
