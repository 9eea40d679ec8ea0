-- What a call answers, in document 01's terms: a value, or a refusal by its number and the values that come with it. Assumes nothing.
use Rattle.std.specs.Prelude.{ℕ, List}

pub data Outcome (A : Type 0) : Type 0 where
  refused : ℕ → List ℕ → Outcome A
  value : A → Outcome A

-- One step after another: the first refusal met is the answer.
unfoldable pub bind : {A B : Type 0} → Outcome A → (A → Outcome B) → Outcome B
bind (refused n vs) f = refused n vs
bind (value a) f = f a
