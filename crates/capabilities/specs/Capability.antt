-- What the call for an adapter's capability part answers: 3, 4, loading, 14. Assumes nothing.
use Rattle.std.specs.Prelude.{ℕ, suc, zero, cond, List, [], ◌∷◌, eqb, Option, None, Some}
use Rattle.refusal.specs.Outcome.{Outcome, value, bind}
use Rattle.survey.specs.Devices.{Device, Adapter, devices_of}
use Rattle.adapter.specs.Adapter.{registers_of, find_cap}
use Rattle.adapter.specs.declared.Part.{Part}
use Rattle.load.specs.Loading.{loaded}
use Rattle.load.specs.Answers.{present}

-- the adapter that the survey says, by device place and number
unfoldable pub numbered_in : ℕ → List Adapter → Option Adapter
numbered_in a [] = None
numbered_in a (x ∷ xs) = cond (eqb x.number a) (Some x) (numbered_in a xs)

unfoldable pub said_adapter : List Device → ℕ → ℕ → Option Adapter
said_adapter [] p a = None
said_adapter (d ∷ ds) zero a = numbered_in a d.adapters
said_adapter (d ∷ ds) (suc p) a = said_adapter ds p a

-- its capability part, by indices among its registers
unfoldable pub capability_answer : List ℕ → List ℕ → ℕ → ℕ → ℕ → Outcome (Option Part)
capability_answer t s p a cap = bind (loaded t s) (λ x. bind (present (said_adapter (devices_of s) p a)) (λ y. value (find_cap cap (registers_of y))))
