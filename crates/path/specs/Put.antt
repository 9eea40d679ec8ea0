-- A path written from tables. Assumes nothing.
use Rattle.std.specs.Prelude.{ℕ, ◌+◌, ◌*◌, ◌≤◌, ◌<◌, ◌≡◌, false, List, length, drop, Option, None, Some, Err, Ok, Result}
use Rattle.refusal.specs.Outcome.{value, bind}
use Rattle.tables.specs.Rows.{EntryRow, DeviceRow}
use Rattle.load.specs.Answers.{asked_device}
use Rattle.walk.specs.Rule.{walk_from, in_room, WalkRule}
use Rattle.path.specs.Words.{words_needed, with_path, output_by}
use Rattle.refusal.specs.Refusal.{outcome, is_given, IsMet}
use Rattle.refusal.specs.declared.Refusal.{Refusal}
use Rattle.tables.specs.declared.Stand.{Stand}
use Rattle.tables.specs.declared.Tables.{Tables}
use Rattle.tables.specs.Tables.{Sized, Tabled, rows_of}

-- In tables in order it is how the walk ends, and its path. In any others it is free, but that there is room for a path that is answered, and that no other word is changed.
pub record Put (tables : Tables) (s : Stand) (name : ℕ) (output : List ℕ) (r : Result (Option ℕ) Refusal) (output' : List ℕ) : Type 0 where
  pub answers : Sized tables → Tabled tables → s.place < 65536 → outcome r ≡ bind (walk_from (rows_of tables) s) (in_room (words_needed name) (length output))
  pub writes : Sized tables → Tabled tables → s.place < 65536 → output' ≡ output_by name (walk_from (rows_of tables) s) output
  pub past : 65535 < s.place → r ≡ (Ok None)
  -- larger tables are not walked: no path
  pub larger : (Sized tables → ⊥) → r ≡ (Ok None)
  -- on any tables, it is refused by a fault, 14 or 2
  pub met : (m : Refusal) → r ≡ Err m → IsMet m
  pub kept : is_given r ≡ false → output' ≡ output
  pub fits : (n : ℕ) → r ≡ Ok (Some n) → (0 < n) × (1 + 2 * n ≤ length output)
  pub tail : (n : ℕ) → r ≡ Ok (Some n) → drop (1 + 2 * n) output' ≡ drop (1 + 2 * n) output
  pub long : length output' ≡ length output
  -- every start at a device that is there
  pub walks : Sized tables → Tabled tables → (d : DeviceRow) → asked_device (rows_of tables) s.place ≡ value d
      → WalkRule (rows_of tables) s (words_needed name) (length output) (λ hs. output' ≡ with_path name hs output) (outcome r)

-- In tables in order, for a walk that has a path and where there is room for it, these are the path's words. Else what is written is free, but that no word past the answer is changed.
pub record WalkPut (tables : Tables) (s : Stand) (name : ℕ) (output : List ℕ) (r : ℕ) (output' : List ℕ) : Type 0 where
  pub answers : Sized tables → Tabled tables → (hs : List EntryRow) → walk_from (rows_of tables) s ≡ value (Some hs) → words_needed name hs ≤ length output → r ≡ words_needed name hs
  pub writes : Sized tables → Tabled tables → (hs : List EntryRow) → walk_from (rows_of tables) s ≡ value (Some hs) → words_needed name hs ≤ length output → output' ≡ with_path name hs output
  pub fits : r ≤ length output
  pub tail : drop r output' ≡ drop r output
  pub long : length output' ≡ length output
