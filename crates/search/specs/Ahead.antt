-- The next HopID of an adapter that has an entry, and that entry. Assumes nothing.
use Rattle.std.specs.Prelude.{ℕ, ◌≤◌, ◌<◌, ◌≡◌, List, None, Option, Some}
use Rattle.tables.specs.Rows.{entry_in}
use Rattle.tables.specs.Packed.{entries_in, entry_unit, Sorted}
use Rattle.tables.specs.Found.{EntrySought}
use Rattle.search.specs.declared.HopEntry.{HopEntry}

-- In a table whose keys don't fall it is the least HopID from h on that has an entry, and its first entry. In any other it is free whether one is found; one that is found is from h on, and stands in the table.
pub record HopAhead (t : List ℕ) (p a h : ℕ) (r : Option HopEntry) : Type 0 where
  pub first : p < 65536 → Sorted entry_unit t → (e : HopEntry) → r ≡ Some e → (j : ℕ) → h ≤ j → j < e.hop → entry_in (entries_in t) p a j ≡ None
  pub over : p < 65536 → Sorted entry_unit t → r ≡ None → (j : ℕ) → h ≤ j → entry_in (entries_in t) p a j ≡ None
  pub past : 65535 < p → r ≡ None
  pub from : (e : HopEntry) → r ≡ Some e → h ≤ e.hop
  pub found : (e : HopEntry) → r ≡ Some e → EntrySought t p a e.hop (Some e.out)
