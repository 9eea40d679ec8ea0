-- For the contracts of private functions only. No promise to a caller rests on these. Assumes nothing.
use Rattle.std.specs.Prelude.{ℕ, ◌+◌, ◌*◌, ◌≤◌, ◌<◌, ◌≡◌, List, ◌∷◌, ◌++◌, length, get_or, drop}
use Rattle.tables.specs.Rows.{EntryRow}
use Rattle.orbit.specs.Walk.{Walk, hops_n, EndsAfter}
use Rattle.walk.specs.Walking.{End, walk_on}
use Rattle.path.specs.Words.{hops_words}
use Rattle.tables.specs.declared.Stand.{Stand}
use Rattle.tables.specs.declared.Tables.{Tables}
use Rattle.tables.specs.Tables.{Sized, Tabled, rows_of}

unfoldable pub walk_in : Tables → Walk Stand EntryRow End
walk_in tables = walk_on (rows_of tables)

-- a head word and hops, in the output as it was
unfoldable pub so_far : ℕ → List EntryRow → List ℕ → List ℕ
so_far w hs old = (w ∷ hops_words hs) ++ drop (1 + 2 * length hs) old

-- n hops of a walk are written, and no word past them: all of a walk that ends, where there is room for its hops
pub record HopsPut (tables : Tables) (s : Stand) (old : List ℕ) (n : ℕ) (new : List ℕ) : Type 0 where
  pub fits : 1 + 2 * n ≤ length old
  pub long : length new ≡ length old
  pub tail : drop (1 + 2 * n) new ≡ drop (1 + 2 * n) old
  pub words : Sized tables → Tabled tables → s.place < length tables.devices.now → (m : ℕ) → EndsAfter (walk_in tables) s m → 1 + 2 * m ≤ length old → (n ≡ m) × (new ≡ so_far (get_or old 0 0) (hops_n (walk_in tables) s n) old)
