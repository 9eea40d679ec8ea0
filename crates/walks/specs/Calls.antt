-- The call for a single walk: 3, 4, loading, 14, then as the walk ends, 13, and 2 last; and the rule of every such call. Assumes nothing.
use Rattle.std.specs.Prelude.{ℕ, ◌≡◌, false, List, length, Result, Option}
use Rattle.refusal.specs.Outcome.{Outcome, value, bind}
use Rattle.adapter.specs.Adapter.{AdapterRow}
use Rattle.tables.specs.Rows.{EntryRow, Rows}
use Rattle.load.specs.Loading.{loaded}
use Rattle.load.specs.Answers.{asked_adapter}
use Rattle.walk.specs.Rule.{walk_from, in_room, WalkRule}
use Rattle.path.specs.Words.{words_needed, with_path, output_by}
use Rattle.refusal.specs.Refusal.{outcome, is_given}
use Rattle.refusal.specs.declared.Refusal.{Refusal}
use Rattle.tables.specs.declared.Stand.{Stand}

-- the name of a single walk's path
abbrev pub single : ℕ
single = 9

-- 3, 4, loading, 14, then as the walk ends
unfoldable pub path_answer : List ℕ → List ℕ → Stand → Outcome (Option (List EntryRow))
path_answer t v s = bind (loaded t v) (λ x. bind (asked_adapter x s.place s.adapter) (λ y. walk_from x s))

unfoldable pub walk_answer : List ℕ → List ℕ → Stand → ℕ → Outcome (Option ℕ)
walk_answer t v s room = bind (path_answer t v s) (in_room (words_needed single) room)

-- the whole outcome of the call
pub record WalkDone (t v : List ℕ) (s : Stand) (output : List ℕ) (r : Result (Option ℕ) Refusal) (output' : List ℕ) : Type 0 where
  pub answers : outcome r ≡ walk_answer t v s (length output)
  pub writes : output' ≡ output_by single (path_answer t v s) output
  -- what isn't a path is not written
  pub kept : is_given r ≡ false → output' ≡ output
  -- every accepted survey and every start in it
  pub walks : (x : Rows) (y : AdapterRow) → loaded t v ≡ value x → asked_adapter x s.place s.adapter ≡ value y
      → WalkRule x s (words_needed single) (length output) (λ hs. output' ≡ with_path single hs output) (outcome r)
