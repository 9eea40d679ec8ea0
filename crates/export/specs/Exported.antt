-- The complete outcomes of the exported calls that write into lent buffers (of our descriptions: lookups/specs/Handed.antt); `answer` is what the call says, and no lent buffer. Assumes nothing.
use Rattle.std.specs.Prelude.{ℕ, ◌+◌, ◌*◌, ◌≡◌, ◌↔◌, false, List, [], ◌∷◌, length, get_or}
use Rattle.refusal.specs.Outcome.{value, bind}
use Rattle.dump.specs.Dump.{dump_answer, scratch_after, output_after}
use Rattle.text.specs.Text as text
use Rattle.adapter.specs.Adapter.{AdapterRow}
use Rattle.tables.specs.Rows.{Rows}
use Rattle.load.specs.Loading.{loaded}
use Rattle.load.specs.Answers.{asked_adapter}
use Rattle.orbit.specs.Walk.{Never, Again}
use Rattle.walk.specs.Walking.{walk_on}
use Rattle.tables.specs.declared.Stand.{Stand}
use Rattle.walk.specs.Rule.{WalkRule}
use Rattle.path.specs.Words.{words_needed, with_path, output_by}
use Rattle.walks.specs.Calls.{single, path_answer, walk_answer}
use Rattle.discovery.specs.Answers as tunnels
use Rattle.discoveries.specs.Calls.{discover_answer}
use Rattle.answers.specs.Said.{answered, said, always, perhaps, one}

pub record DumpSaid (s scratch output scratch' output' answer : List ℕ) : Type 0 where
  pub says : answer ≡ said (always one (dump_answer s (length scratch) (length output)))
  pub clears : scratch' ≡ scratch_after (dump_answer s (length scratch) (length output)) scratch
  pub writes : output' ≡ output_after (dump_answer s (length scratch) (length output)) s output
  -- without a result both are as they were
  pub kept : answered answer ≡ false → (scratch' ≡ scratch) × (output' ≡ output)

pub record TextSaid (t output output' answer : List ℕ) : Type 0 where
  pub says : answer ≡ said (always one (bind (text.survey_of t) (text.in_room (length output))))
  pub writes : output' ≡ text.output_by (text.survey_of t) output
  pub kept : answered answer ≡ false → output' ≡ output

-- the words of a path of n hops: its head, and two words a hop
unfoldable pub path_size : ℕ → List ℕ
path_size n = (1 + 2 * n) ∷ []

pub record WalkSaid (t v : List ℕ) (s : Stand) (output output' answer : List ℕ) : Type 0 where
  pub says : answer ≡ said (perhaps path_size (walk_answer t v s (length output)))
  pub writes : output' ≡ output_by single (path_answer t v s) output
  pub kept : answered answer ≡ false → output' ≡ output
  -- every accepted survey and every start in it: the rule of every call for a single walk, of what is said
  pub walks : (x : Rows) (y : AdapterRow) → loaded t v ≡ value x → asked_adapter x s.place s.adapter ≡ value y
      → WalkRule x s (words_needed single) (length output) (λ hs. output' ≡ with_path single hs output) (walk_answer t v s (length output))
  -- and 13 is said exactly when the walk never ends, and exactly when it comes a second time to the same place, adapter and HopID
  pub endless : (x : Rows) (y : AdapterRow) → loaded t v ≡ value x → asked_adapter x s.place s.adapter ≡ value y → (get_or answer 0 0 ≡ 13) ↔ Never (walk_on x) s
  pub again : (x : Rows) (y : AdapterRow) → loaded t v ≡ value x → asked_adapter x s.place s.adapter ≡ value y → (get_or answer 0 0 ≡ 13) ↔ Again (walk_on x) s

pub record DiscoverSaid (t v : List ℕ) (p a : ℕ) (output output' answer : List ℕ) : Type 0 where
  pub says : answer ≡ said (perhaps one (bind (discover_answer t v p a) (tunnels.in_room (length output))))
  pub writes : output' ≡ tunnels.output_by (discover_answer t v p a) output
  pub kept : answered answer ≡ false → output' ≡ output
