-- What a survey that is accepted counts. Assumes nothing.
use Rattle.std.specs.Prelude.{ℕ, List, length}
use Rattle.refusal.specs.Outcome.{Outcome, value, bind}
use Rattle.load.specs.Loading.{loaded, valid_entries}
use Rattle.acceptance.specs.declared.Acceptance.{Acceptance}

-- whether a survey is accepted, and its numbers of devices and valid entries
unfoldable pub accepted_answer : List ℕ → List ℕ → Outcome Acceptance
accepted_answer t s = bind (loaded t s) (λ x. value (record { devices = length x.devices; entries = valid_entries x }))
