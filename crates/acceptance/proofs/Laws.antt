-- What is said of an accepted survey, by how many rows it has. Assumes nothing.
use Prim.Native.Nat.{ℕ}
use mathlib.Core.Path.{◌≡◌, refl}
use mathlib.Core.List.{List}
use Rattle.refusal.specs.Outcome.{Outcome, refused, value, bind}
use Rattle.load.specs.Loading.{loaded}
use Rattle.load.specs.Answers.{counts_of}
use Rattle.load.specs.declared.Counts.{Counts}
use Rattle.acceptance.specs.Accepted.{accepted_answer}
use Rattle.acceptance.specs.declared.Acceptance.{Acceptance}

-- of the numbers of rows, those that are said
abbrev pub said : Counts → Outcome Acceptance
said c = value (record { devices = c.devices; entries = c.entries })

counted_first : {A : Type 0} (o : Outcome A) (f : A → Counts) → bind o (λ x. said (f x)) ≡ bind (bind o (λ x. value (f x))) said
unfolding bind
counted_first (refused n vs) f = refl
counted_first (value x) f = refl

pub by_counts : (t s : List ℕ) → accepted_answer t s ≡ bind (bind (loaded t s) (λ x. value (counts_of x))) said
unfolding accepted_answer counts_of
by_counts t s = counted_first (loaded t s) counts_of
