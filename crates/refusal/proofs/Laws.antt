-- Laws for the layers above: a refusal goes through every later step, and what a call answers tells what it returned. Assumes nothing.
use mathlib.Core.Path.{◌≡◌, refl, sym, ap, ◌∙◌}
use native.Mathlib.Omega.{arith}
use Prim.Native.Nat.{ℕ}
use mathlib.Core.List.{List}
use Rattle.std.specs.Prelude.{Option, None, Some, Result, Ok, Err, ok_or}
use Rattle.refusal.specs.Outcome.{Outcome, refused, value, bind}
use Rattle.refusal.specs.Refusal.{refusal_of, refused_by, of_walk, outcome_by, outcome, walk_outcome, fault_outcome}
use Rattle.refusal.specs.declared.WalkError.{WalkError}
use Rattle.refusal.specs.declared.Fault.{Fault}
use Rattle.refusal.specs.declared.Fault.TheVariants.{FewRegisters, NoField, BadAdapters, GenTOffset, NoPathDump, NoOutAdapter, NoParentRoute, NoDownstreamRoute, Endless}
use Rattle.refusal.specs.declared.Refusal.{Refusal}
use Rattle.refusal.specs.declared.Refusal.TheVariants as refusal
use Rattle.refusal.specs.declared.FieldError.{FieldError}
use Rattle.refusal.specs.declared.FieldError.TheVariants as field

pub fault_bind : {A B : Type 0} (f : Fault) (g : A → Outcome B) → bind (refusal_of f) g ≡ refusal_of f
unfolding bind refusal_of
fault_bind (FewRegisters s) g = refl
fault_bind (NoField s) g = refl
fault_bind (BadAdapters p) g = refl
fault_bind (GenTOffset s) g = refl
fault_bind (NoPathDump s) g = refl
fault_bind (NoOutAdapter s) g = refl
fault_bind (NoParentRoute s) g = refl
fault_bind (NoDownstreamRoute s) g = refl
fault_bind Endless g = refl

pub refused_bind : {A B : Type 0} (r : Refusal) (g : A → Outcome B) → bind (refused_by r) g ≡ refused_by r
unfolding bind
refused_bind (refusal.NotAscii p) g = refl
refused_bind (refusal.Short n) g = refl
refused_bind (refusal.Descriptions p) g = refl
refused_bind (refusal.Survey p) g = refl
refused_bind refusal.NoField g = refl
refused_bind (refusal.Fault f) g = fault_bind f g
refused_bind refusal.Missing g = refl

-- a refusal has a number and values
fault_numbered : (A : Type 0) (f : Fault) → (n : ℕ) × (vs : List ℕ) × (refusal_of {A = A} f ≡ refused n vs)
unfolding refusal_of
fault_numbered A (FewRegisters s) = (_, _, refl)
fault_numbered A (NoField s) = (_, _, refl)
fault_numbered A (BadAdapters p) = (_, _, refl)
fault_numbered A (GenTOffset s) = (_, _, refl)
fault_numbered A (NoPathDump s) = (_, _, refl)
fault_numbered A (NoOutAdapter s) = (_, _, refl)
fault_numbered A (NoParentRoute s) = (_, _, refl)
fault_numbered A (NoDownstreamRoute s) = (_, _, refl)
fault_numbered A Endless = (_, _, refl)

pub numbered : (A : Type 0) (r : Refusal) → (n : ℕ) × (vs : List ℕ) × (refused_by {A = A} r ≡ refused n vs)
numbered A (refusal.NotAscii p) = (_, _, refl)
numbered A (refusal.Short n) = (_, _, refl)
numbered A (refusal.Descriptions p) = (_, _, refl)
numbered A (refusal.Survey p) = (_, _, refl)
numbered A refusal.NoField = (_, _, refl)
numbered A (refusal.Fault f) = fault_numbered A f
numbered A refusal.Missing = (_, _, refl)

pub walk_bind : {A B : Type 0} (e : WalkError) (g : A → Outcome B) → bind (refused_by (of_walk e)) g ≡ refused_by (of_walk e)
walk_bind e g = refused_bind (of_walk e) g

-- What `?` does, by the outcome o of the call before it: it ends with the call's refusal, or goes on with its value.
-- r and s give a refusal's number and values, whatever is answered else.
module _ {A B E : Type 0} (r : E → Outcome A) (s : E → Outcome B) (through : (e : E) (g : A → Outcome B) → bind (r e) g ≡ s e) (q : Result A E) (o : Outcome A) (is : outcome_by r q ≡ o) (g : A → Outcome B) where
  ended_by : (e : E) → q ≡ Err e → outcome_by s (Err e) ≡ bind o g
  ended_by e k = sym (through e g) ∙ ap (λ (w : Outcome A). bind w g) (sym (ap (outcome_by r) k) ∙ is)

  gone_on_by : (a : A) → q ≡ Ok a → bind o g ≡ g a
  unfolding bind
  gone_on_by a k = ap (λ (w : Outcome A). bind w g) (sym is ∙ ap (outcome_by r) k)

module _ {A B : Type 0} (q : Result A Refusal) (o : Outcome A) (e : outcome q ≡ o) (g : A → Outcome B) where
  pub ended : (r : Refusal) → q ≡ Err r → outcome (Err r) ≡ bind o g
  ended = ended_by refused_by refused_by refused_bind q o e g

  pub gone_on : (a : A) → q ≡ Ok a → bind o g ≡ g a
  gone_on = gone_on_by refused_by refused_by refused_bind q o e g

module _ {A B : Type 0} (q : Result A WalkError) (o : Outcome A) (e : walk_outcome q ≡ o) (g : A → Outcome B) where
  pub walk_ended : (r : WalkError) → q ≡ Err r → walk_outcome (Err r) ≡ bind o g
  walk_ended = ended_by (λ r. refused_by (of_walk r)) (λ r. refused_by (of_walk r)) walk_bind q o e g

  pub walk_gone_on : (a : A) → q ≡ Ok a → bind o g ≡ g a
  walk_gone_on = gone_on_by (λ r. refused_by (of_walk r)) (λ r. refused_by (of_walk r)) walk_bind q o e g

module _ {A B : Type 0} (q : Result A Fault) (o : Outcome A) (e : fault_outcome q ≡ o) (g : A → Outcome B) where
  pub fault_ended : (f : Fault) → q ≡ Err f → fault_outcome (Err f) ≡ bind o g
  fault_ended = ended_by refusal_of refusal_of fault_bind q o e g

  pub fault_gone_on : (a : A) → q ≡ Ok a → bind o g ≡ g a
  fault_gone_on = gone_on_by refusal_of refusal_of fault_bind q o e g

pub not_refused : {A : Type 0} (r : Refusal) (a : A) → refused_by r ≡ value a → ⊥
not_refused {A} r a e = let x = numbered A r in absurd (let z : ◌≡◌ {A = ℕ} 0 1 = cc in omega arith)

pub outcome_ok : {A : Type 0} (q : Result A Refusal) (a : A) → outcome q ≡ value a → q ≡ Ok a
outcome_ok (Ok b) a e = cc
outcome_ok (Err r) a e = absurd (not_refused r a e)

-- what `?` does where what was sought is missing, and where it is there
module _ {A E : Type 0} (o : Option A) (f : E) (q : Result A E) (is : q ≡ ok_or o f) where
  pub missing : (e : E) → q ≡ Err e → (o ≡ None) × (e ≡ f)
  missing e k = go o (sym k ∙ is)
    where
      go : (x : Option A) → Err e ≡ ok_or x f → (x ≡ None) × (e ≡ f)
      go None g = (refl, cc)
      go (Some a) g = absurd (let z : ◌≡◌ {A = ℕ} 0 1 = cc in omega arith)

  pub there : (a : A) → q ≡ Ok a → o ≡ Some a
  there a k = go o (sym k ∙ is)
    where
      go : (x : Option A) → Ok a ≡ ok_or x f → x ≡ Some a
      go None g = absurd (let z : ◌≡◌ {A = ℕ} 0 1 = cc in omega arith)
      go (Some b) g = cc

-- there is one way for a field to be missing
pub no_field : (e : FieldError) → e ≡ field.NoField
no_field field.NoField = refl

-- what two equal Results hold
pub ok_same : {A E : Type 0} (x y : A) → ◌≡◌ {A = Result A E} (Ok x) (Ok y) → x ≡ y
ok_same x y e = cc

pub err_no_ok : {A E : Type 0} (x : A) (y : E) → ◌≡◌ {A = Result A E} (Err y) (Ok x) → ⊥
err_no_ok x y e = let z : ◌≡◌ {A = ℕ} 0 1 = cc in absurd (omega arith)
