-- Laws on what a loaded survey answers of an adapter's capability part. Assumes nothing.
use Rattle.std.specs.Prelude.{None, Some, Option, Err, Ok, Result}
use Prim.Native.Nat.{ℕ}
use mathlib.Core.Path.{◌≡◌, sym, ap, ◌∙◌}
use mathlib.Core.List.{List}
use Rattle.refusal.specs.Outcome.{Outcome, value, bind}
use Rattle.survey.specs.Devices.{Adapter, devices_of}
use Rattle.listing.specs.After.{adapter_at}
use Rattle.adapter.specs.Adapter.{registers_of, find_cap}
use Rattle.adapter.specs.declared.Part.{Part}
use Rattle.load.proofs.Result.{accept_ended, accept_gone_on}
use Rattle.load.specs.Loading.{loaded}
use Rattle.load.specs.Answers.{present, counts_of}
use Rattle.refusal.specs.Refusal.{outcome}
use Rattle.refusal.specs.declared.Refusal.{Refusal}
use Rattle.refusal.specs.declared.Refusal.TheVariants as refusal
use Rattle.load.specs.declared.Counts.{Counts}
use Rattle.capabilities.specs.Capability.{said_adapter, capability_answer}
use Rattle.capabilities.specs.Work.{head_outcome}

module _ (q : Result Counts Refusal) (t s : List ℕ) (same : outcome q ≡ bind (loaded t s) (λ x. value (counts_of x))) (p n c : ℕ) where
  abbrev part : Option Adapter → Outcome (Option Part)
  part o = bind (present o) (λ y. value (find_cap c (registers_of y)))

  pub cap_refused : (r : Refusal) → q ≡ Err r → outcome (Err r) ≡ capability_answer t s p n c
  unfolding capability_answer
  cap_refused r k = accept_ended q _ same (λ x. part (said_adapter (devices_of s) p n)) r k

  -- of a head that was looked for
  module _ (x : Counts) (k : q ≡ Ok x) (f : Option ℕ) (g : head_outcome s f ≡ said_adapter (devices_of s) p n) where
    to_cap : part (head_outcome s f) ≡ capability_answer t s p n c
    unfolding capability_answer
    to_cap = ap (λ o. part o) g ∙ accept_gone_on q _ same (λ x. part (said_adapter (devices_of s) p n)) x k

    pub cap_nowhere : f ≡ None → outcome (Err refusal.Missing) ≡ capability_answer t s p n c
    unfolding head_outcome present bind
    cap_nowhere j = ap (λ o. part (head_outcome s o)) (sym j) ∙ to_cap

    pub cap_found : (i : ℕ) → f ≡ Some i → (x : Option Part) → x ≡ find_cap c (registers_of (adapter_at s i)) → outcome (Ok x) ≡ capability_answer t s p n c
    unfolding head_outcome present bind
    cap_found i j x b = ap (λ o. value o) b ∙ ap (λ o. part (head_outcome s o)) (sym j) ∙ to_cap
