-- Laws on the call for the tunnels of an adapter. Assumes nothing.
use Rattle.std.specs.Prelude.{Err, Result, Option}
use Prim.Native.Nat.{ℕ}
use mathlib.Core.Path.{◌≡◌, refl, sym, ap, ◌∙◌}
use mathlib.Core.List.{List}
use lib.ListN.{length}
use Rattle.refusal.specs.Outcome.{Outcome, refused, value, bind}
use Rattle.tables.specs.Rows.{Rows}
use Rattle.load.specs.Loading.{loaded}
use Rattle.refusal.specs.Refusal.{refused_by}
use Rattle.refusal.specs.declared.Refusal.{Refusal}
use Rattle.refusal.proofs.Laws.{refused_bind}
use Rattle.walks.proofs.Laws.{nothing, refused_value}
use Rattle.tunnel.specs.Tunnels.{Tunnel}
use Rattle.discovery.specs.Answers.{discover_at, in_room, output_by}
use Rattle.discovery.specs.Tables.{Discovered}
use Rattle.discoveries.specs.Calls.{discover_answer, DiscoverDone}
use Rattle.tables.specs.declared.Tables.{Tables}
use Rattle.tables.specs.Tables.{Sized, Tabled, rows_of}

-- nothing is written of what is refused
kept_by : (old : List ℕ) (o : Outcome (Option (List Tunnel))) → bind o nothing ≡ o → old ≡ output_by o old
unfolding output_by bind nothing
kept_by old (refused n vs) e = refl
kept_by old (value o) e = absurd (refused_value e)

module _ (t v : List ℕ) (p a : ℕ) (out : List ℕ) where
  -- loading is refused
  pub turned_away : (r : Refusal) → refused_by r ≡ discover_answer t v p a → DiscoverDone t v p a out (Err r) out
  turned_away r e = record {
    answers = sym (refused_bind r (in_room (length out))) ∙ ap (λ (o : Outcome (Option (List Tunnel))). bind o (in_room (length out))) e;
    writes = kept_by out (discover_answer t v p a) (sym (ap (λ (o : Outcome (Option (List Tunnel))). bind o nothing) e) ∙ refused_bind r nothing ∙ e);
    kept = λ q. refl;
  }

  -- the survey is loaded
  pub done : (tables : Tables) → loaded t v ≡ value (rows_of tables) → Sized tables → Tabled tables → (r : Result (Option ℕ) Refusal) (out' : List ℕ) → Discovered tables p a out r out' → DiscoverDone t v p a out r out'
  unfolding discover_answer bind
  done tables l z k r out' w = record {
    answers = w.answers z k ∙ sym (ap (λ (o : Outcome Rows). bind (bind o (λ x. discover_at x p a)) (in_room (length out))) l);
    writes = w.writes z k ∙ sym (ap (λ (o : Outcome Rows). output_by (bind o (λ x. discover_at x p a)) out) l);
    kept = w.kept;
  }
