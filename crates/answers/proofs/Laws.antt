-- A refusal stays what it is, whatever its result would have been. Assumes nothing.
use Prim.Native.Nat.{ℕ}
use mathlib.Core.Path.{◌≡◌, ap, sym}
use mathlib.Core.List.{List}
use Rattle.std.specs.Prelude.{Some}
use Rattle.refusal.specs.Outcome.{value}
use Rattle.refusal.specs.Refusal.{refused_by}
use Rattle.refusal.specs.declared.Refusal.{Refusal}
use Rattle.refusal.proofs.Laws.{refused_bind}
use Rattle.answers.specs.Said.{said, always, words_in, perhaps}

pub always_refused : {A : Type 0} (f : A → List ℕ) (r : Refusal) → said (refused_by r) ≡ said (always f (refused_by r))
unfolding always
always_refused f r = ap said (sym (refused_bind r (λ a. value (Some (f a)))))

pub perhaps_refused : {A : Type 0} (f : A → List ℕ) (r : Refusal) → said (refused_by r) ≡ said (perhaps f (refused_by r))
unfolding perhaps
perhaps_refused f r = ap said (sym (refused_bind r (λ a. value (words_in f a))))
