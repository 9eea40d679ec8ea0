-- Document 01, "When it says no": the number and the values of each refusal. Assumes nothing.
use Rattle.std.specs.Prelude.{ℕ, List, [], ◌∷◌, Bool, true, false, ◌≡◌, ◌⊎◌, Option, None, Some, Result, Ok, Err}
use Rattle.refusal.specs.Outcome.{Outcome, refused, value}
use Rattle.refusal.specs.declared.Site.{Site}
use Rattle.refusal.specs.declared.Fault.{Fault}
use Rattle.refusal.specs.declared.Refusal.{Refusal}
use Rattle.refusal.specs.declared.WalkError.{WalkError}
use Rattle.refusal.specs.declared.WalkError.TheVariants as walk
use Rattle.refusal.specs.declared.FieldError.{FieldError}
use Rattle.refusal.specs.declared.Refusal.TheVariants as refusal
use Rattle.refusal.specs.declared.Fault.TheVariants.{FewRegisters, NoField, BadAdapters, GenTOffset, NoPathDump, NoOutAdapter, NoParentRoute, NoDownstreamRoute, Endless}

-- 5 to 12 come with device place and adapter number, which is always 0 for 7
unfoldable pub at : Site → List ℕ
at s = s.place ∷ s.adapter ∷ []

unfoldable pub refusal_of : {A : Type 0} → Fault → Outcome A
refusal_of (FewRegisters s) = refused 5 (at s)
refusal_of (NoField s) = refused 6 (at s)
refusal_of (BadAdapters p) = refused 7 (p ∷ 0 ∷ [])
refusal_of (GenTOffset s) = refused 8 (at s)
refusal_of (NoPathDump s) = refused 9 (at s)
refusal_of (NoOutAdapter s) = refused 10 (at s)
refusal_of (NoParentRoute s) = refused 11 (at s)
refusal_of (NoDownstreamRoute s) = refused 12 (at s)
refusal_of Endless = refused 13 []

abbrev pub refused_by : {A : Type 0} → Refusal → Outcome A
refused_by (refusal.NotAscii p) = refused 1 (p ∷ [])
refused_by (refusal.Short n) = refused 2 (n ∷ [])
refused_by (refusal.Descriptions p) = refused 3 (p ∷ [])
refused_by (refusal.Survey p) = refused 4 (p ∷ [])
refused_by refusal.NoField = refused 6 []
refused_by (refusal.Fault f) = refusal_of f
refused_by refusal.Missing = refused 14 []

-- what refuses a walk refuses a call
abbrev pub of_walk : WalkError → Refusal
of_walk (walk.Fault f) = refusal.Fault f
of_walk walk.Missing = refusal.Missing

-- what is answered, in document 01's numbers and values, by those of each refusal
abbrev pub outcome_by : {A E : Type 0} → (E → Outcome A) → Result A E → Outcome A
outcome_by f (Ok a) = value a
outcome_by f (Err e) = f e

-- by a call
abbrev pub outcome : {A : Type 0} → Result A Refusal → Outcome A
outcome = outcome_by refused_by

-- by a walk on tables, which meets faults and 14 alone
abbrev pub walk_outcome : {A : Type 0} → Result A WalkError → Outcome A
walk_outcome = outcome_by (λ e. refused_by (of_walk e))

-- by a part of loading, which meets faults alone
abbrev pub fault_outcome : {A : Type 0} → Result A Fault → Outcome A
fault_outcome = outcome_by refusal_of

-- a field or a flag that is wanted of a register: 6 alone where the register has no name, the field is missing or the flag isn't one bit
abbrev pub field_read : {A : Type 0} → Result A FieldError → Outcome A
field_read = outcome_by (λ e. refused 6 [])

-- the same at an adapter: 6 with its place
abbrev pub field_at : {A : Type 0} → Site → Result A FieldError → Outcome A
field_at s = outcome_by (λ e. refusal_of (NoField s))

-- whether a call answers something, and not none or a refusal
unfoldable pub is_given : {A E : Type 0} → Result (Option A) E → Bool
is_given (Ok (Some a)) = true
is_given (Ok None) = false
is_given (Err e) = false

-- what a call that writes what a walk or a discovery gives refuses: as the walk is refused, or 2
unfoldable pub IsMet : Refusal → Type 0
IsMet m = ((e : WalkError) × (m ≡ of_walk e)) ⊎ ((n : ℕ) × (m ≡ refusal.Short n))
