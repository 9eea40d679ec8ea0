-- The call for the tunnels of an adapter: 3, 4, loading, 14, then the Rust's own order, and 2 last. Assumes nothing.
use Rattle.std.specs.Prelude.{ℕ, ◌≡◌, false, List, length, Result, Option}
use Rattle.refusal.specs.Outcome.{Outcome, bind}
use Rattle.load.specs.Loading.{loaded}
use Rattle.tunnel.specs.Tunnels.{Tunnel}
use Rattle.discovery.specs.Answers.{discover_at, in_room, output_by}
use Rattle.refusal.specs.Refusal.{outcome, is_given}
use Rattle.refusal.specs.declared.Refusal.{Refusal}

unfoldable pub discover_answer : List ℕ → List ℕ → ℕ → ℕ → Outcome (Option (List Tunnel))
discover_answer t v p a = bind (loaded t v) (λ x. discover_at x p a)

-- the whole outcome of the call
pub record DiscoverDone (t v : List ℕ) (p a : ℕ) (output : List ℕ) (r : Result (Option ℕ) Refusal) (output' : List ℕ) : Type 0 where
  pub answers : outcome r ≡ bind (discover_answer t v p a) (in_room (length output))
  pub writes : output' ≡ output_by (discover_answer t v p a) output
  -- what isn't a list is not written
  pub kept : is_given r ≡ false → output' ≡ output
