-- Document 01, module 7: the walk from a device place, adapter and HopID, hop by hop. Assumes nothing.
use Rattle.std.specs.Prelude.{Option, None, Some, ℕ, List, [], ◌∷◌}
use Rattle.refusal.specs.Outcome.{Outcome, refused, value}
use Rattle.tables.specs.Rows.{EntryRow, Rows, entry_in}
use Rattle.orbit.specs.Walk.{Turn, Turn.on as goes_on, Turn.ends as comes-to, Walk}
use Rattle.fabric.specs.Fabric.{Way, Way.on, Way.last, Way.dropped, leads}
use Rattle.tables.specs.declared.Stand.{Stand}

-- how a hop ends a walk: a path, this hop last; no path at all; or a refusal
pub data End : Type 0 where
  path : End
  no_path : End
  fault : ℕ → List ℕ → End

-- it stands next at the out HopID
unfoldable pub turn_by : EntryRow → Outcome Way → Turn Stand End
turn_by e (refused n vs) = comes-to (fault n vs)
turn_by e (value (on q a)) = goes_on (record { place = q; adapter = a; hop_id = e.out_hop })
turn_by e (value last) = comes-to path
turn_by e (value dropped) = comes-to no_path

-- a step takes the first valid entry where it stands; that entry, with where it stands, is the hop
unfoldable pub walk_on : Rows → Walk Stand EntryRow End
walk_on x = record {
  hop = λ s. entry_in x.entries s.place s.adapter s.hop_id;
  next = λ s e. turn_by e (leads x s.place e.out_adapter);
}

-- no entry at the start is no path; after a hop, a good path of the hops so far
unfoldable pub path_of : List EntryRow → Option (List EntryRow)
path_of [] = None
path_of (h ∷ hs) = Some (h ∷ hs)
