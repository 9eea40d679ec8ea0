-- Discovery on tables. Assumes nothing.
use Rattle.std.specs.Prelude.{ℕ, ◌≤◌, ◌≡◌, false, List, length, drop, None, Ok, Option, Result, Some, Err}
use Rattle.refusal.specs.Outcome.{bind}
use Rattle.discovery.specs.Answers.{discover_at, in_room, output_by}
use Rattle.refusal.specs.Refusal.{outcome, IsMet, is_given}
use Rattle.refusal.specs.declared.Refusal.{Refusal}
use Rattle.tables.specs.declared.Tables.{Tables}
use Rattle.tables.specs.Tables.{Sized, Tabled, rows_of}

-- In tables in order it is what is discovered, and its words. Larger tables are not looked at: no list. In any others it is free, but by what it is refused, that there is room for a list that is answered, and that no other word is changed.
pub record Discovered (tables : Tables) (p a : ℕ) (output : List ℕ) (r : Result (Option ℕ) Refusal) (output' : List ℕ) : Type 0 where
  pub answers : Sized tables → Tabled tables → outcome r ≡ bind (discover_at (rows_of tables) p a) (in_room (length output))
  pub writes : Sized tables → Tabled tables → output' ≡ output_by (discover_at (rows_of tables) p a) output
  -- larger tables are not looked at: no tunnels
  pub larger : (Sized tables → ⊥) → r ≡ (Ok None)
  -- on any tables, it is refused by a fault, 14 or 2
  pub met : (m : Refusal) → r ≡ Err m → IsMet m
  pub kept : is_given r ≡ false → output' ≡ output
  pub fits : (n : ℕ) → r ≡ Ok (Some n) → n ≤ length output
  pub tail : (n : ℕ) → r ≡ Ok (Some n) → drop n output' ≡ drop n output
  pub long : length output' ≡ length output
