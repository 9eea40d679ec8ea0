-- A refusal's number and values are said in three words: no refusal has a third value. Assumes nothing.
use Prim.Native.Nat.{ℕ, zero, suc}
use mathlib.Core.Path.{◌≡◌, refl, ap, ◌∙◌}
use mathlib.Core.Bool.{Bool, true, false, false≢true}
use mathlib.Core.List.{List, [], ◌∷◌}
use Rattle.std.specs.Prelude.{None}
use Rattle.refusal.specs.Outcome.{Outcome, refused, value, bind}
use Rattle.refusal.specs.Refusal.{at, refusal_of, refused_by}
use Rattle.refusal.specs.declared.Fault.{Fault}
use Rattle.refusal.specs.declared.Fault.TheVariants.{FewRegisters, NoField, BadAdapters, GenTOffset, NoPathDump, NoOutAdapter, NoParentRoute, NoDownstreamRoute, Endless}
use Rattle.refusal.specs.declared.Refusal.{Refusal}
use Rattle.refusal.specs.declared.Refusal.TheVariants as refusal
use Rattle.refusal.proofs.Laws.{refused_bind}
use Rattle.refusals.specs.declared.Numbers.{Numbers}
use Rattle.refusals.specs.Told.{no_refusal, values_of, refused_as}
use Rattle.answers.specs.Said.{said, padded}

-- at most two
abbrev few : List ℕ → Bool
few [] = true
few (a ∷ []) = true
few (a ∷ b ∷ []) = true
few (a ∷ b ∷ d ∷ vs) = false

abbrev few_values : Outcome ℕ → Bool
few_values (refused n vs) = few vs
few_values (value a) = true

fault_few : (f : Fault) → few_values (refusal_of f) ≡ true
unfolding refusal_of at
fault_few (FewRegisters s) = refl
fault_few (NoField s) = refl
fault_few (BadAdapters p) = refl
fault_few (GenTOffset s) = refl
fault_few (NoPathDump s) = refl
fault_few (NoOutAdapter s) = refl
fault_few (NoParentRoute s) = refl
fault_few (NoDownstreamRoute s) = refl
fault_few Endless = refl

refused_few : (r : Refusal) → few_values (refused_by r) ≡ true
refused_few (refusal.NotAscii p) = refl
refused_few (refusal.Short n) = refl
refused_few (refusal.Descriptions p) = refl
refused_few (refusal.Survey p) = refl
refused_few refusal.NoField = refl
refused_few (refusal.Fault f) = fault_few f
refused_few refusal.Missing = refl

values_said : (n values a b : ℕ) → few (values_of values a b) ≡ true → n ∷ a ∷ b ∷ 0 ∷ 0 ∷ 0 ∷ 0 ∷ 0 ∷ [] ≡ said (refused n (values_of values a b))
unfolding said padded values_of no_refusal
values_said n zero zero zero e = refl
values_said n zero zero (suc b) e = absurd (false≢true e)
values_said n zero (suc a) b e = absurd (false≢true e)
values_said n (suc zero) a zero e = refl
values_said n (suc zero) a (suc b) e = absurd (false≢true e)
values_said n (suc (suc zero)) a b e = refl
values_said n (suc (suc (suc v))) a b e = absurd (false≢true e)

pub numbers_said : (n : Numbers) (r : Refusal) → refused_as {A = ℕ} n ≡ refused_by r → n.number ∷ n.first ∷ n.second ∷ 0 ∷ 0 ∷ 0 ∷ 0 ∷ 0 ∷ [] ≡ said (refused_by r)
unfolding refused_as bind
numbers_said n r e =
    values_said n.number n.values n.first n.second (ap few_values e ∙ refused_few r)
    ∙ ap (λ (o : Outcome ℕ). said (bind o (λ a. value None))) e
    ∙ ap said (refused_bind {A = ℕ} r (λ a. value None))
