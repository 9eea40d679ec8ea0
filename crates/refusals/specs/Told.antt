-- A refusal by document 01's number and values. Assumes nothing.
use Rattle.std.specs.Prelude.{ℕ, zero, suc, List, [], ◌∷◌}
use Rattle.refusal.specs.Outcome.{Outcome, refused}
use Rattle.refusal.specs.declared.Site.{Site}
use Rattle.refusals.specs.declared.Numbers.{Numbers}

-- no refusal has three values
unfoldable pub no_refusal : List ℕ
no_refusal = 0 ∷ 0 ∷ 0 ∷ []

-- the values, as many as there are; those past them are 0, and there are at most two
unfoldable pub values_of : ℕ → ℕ → ℕ → List ℕ
values_of zero zero zero = []
values_of zero zero (suc b) = no_refusal
values_of zero (suc a) b = no_refusal
values_of (suc zero) a zero = a ∷ []
values_of (suc zero) a (suc b) = no_refusal
values_of (suc (suc zero)) a b = a ∷ b ∷ []
values_of (suc (suc (suc n))) a b = no_refusal

unfoldable pub refused_as : {A : Type 0} → Numbers → Outcome A
refused_as n = refused n.number (values_of n.values n.first n.second)

-- for a contract of a private function: with a site's device place and adapter number
unfoldable pub sited_as : ℕ → Site → Numbers
sited_as n s = record { number = n; values = 2; first = s.place; second = s.adapter }
