-- What a walk comes to, and the rule that every call for a single walk keeps. Assumes nothing.
use Rattle.std.specs.Prelude.{ℕ, ◌≤◌, ◌<◌, ◌≡◌, ◌↔◌, ◌⊎◌, Bool, true, cond, ◌||◌, List, [], ◌∷◌, ltb, eqb, length, get_or, Option, None, Some}
use Rattle.refusal.specs.Outcome.{Outcome, refused, value, bind}
use Rattle.tables.specs.Rows.{EntryRow, Rows}
use Rattle.orbit.specs.Walk.{Spot, Spot.stand, Spot.ended, Spot.stopped, walk_n, hops_n, EndsAfter, Never, Again}
use Rattle.load.specs.Loading.{valid_entries}
use Rattle.walk.specs.Walking.{End, End.path, End.no_path, End.fault, walk_on, path_of}
use Rattle.tables.specs.declared.Stand.{Stand}

-- what the hops so far and where the walk is come to; 13 where there is still a hop to make
unfoldable pub settled : List EntryRow → Spot Stand End → Outcome (Option (List EntryRow))
settled hs (stand s) = refused 13 []
settled hs (ended path) = value (Some hs)
settled hs (ended no_path) = value None
settled hs (ended (fault k vs)) = refused k vs
settled hs stopped = value (path_of hs)

-- after N hops a walk is over, or never is: `WalkRule`, which mentions no N but this, says so
unfoldable pub walk_from : Rows → Stand → Outcome (Option (List EntryRow))
walk_from x s = settled (hops_n (walk_on x) s (valid_entries x)) (walk_n (walk_on x) s (valid_entries x))

-- 2 last, with what is needed; no path needs nothing
unfoldable pub in_room : (List EntryRow → ℕ) → ℕ → Option (List EntryRow) → Outcome (Option ℕ)
in_room need room None = value None
in_room need room (Some hs) = cond (ltb room (need hs)) (refused 2 (need hs ∷ [])) (value (Some (length hs)))

-- where a hop was made
unfoldable pub stand_of : EntryRow → Stand
stand_of e = record { place = e.device; adapter = e.adapter; hop_id = e.in_hop }

-- what a walk may be refused with, but for 13
unfoldable pub walk_fault : ℕ → Bool
walk_fault k = eqb k 6 || eqb k 10 || eqb k 11 || eqb k 12

-- a path of n hops: exactly the walk's hops in order, n their number, no two with the same place, in adapter and HopID
pub record PathRule (x : Rows) (s : Stand) (n : ℕ) : Type 0 where
  pub one : 0 < n
  pub ends : EndsAfter (walk_on x) s n
  pub count : length (hops_n (walk_on x) s n) ≡ n
  pub stands : (d : EntryRow) (i : ℕ) → i < n → walk_n (walk_on x) s i ≡ stand (stand_of (get_or (hops_n (walk_on x) s n) i d))
  pub apart : (d : EntryRow) (i j : ℕ) → i < j → j < n → stand_of (get_or (hops_n (walk_on x) s n) i d) ≡ stand_of (get_or (hops_n (walk_on x) s n) j d) → ⊥

-- The rule of every call for a single walk, by what a path needs of the room, what is written of it, and what is answered
pub record WalkRule (x : Rows) (s : Stand) (need : List EntryRow → ℕ) (room : ℕ) (Wrote : List EntryRow → Type 0) (o : Outcome (Option ℕ)) : Type 0 where
  -- it ends after at most N hops, or never
  pub bounded : ((n : ℕ) × (n ≤ valid_entries x) × EndsAfter (walk_on x) s n) ⊎ Never (walk_on x) s
  -- if it ends, the answer is a path, no path, or a refusal, as it ends
  pub ends : (n : ℕ) → EndsAfter (walk_on x) s n → o ≡ bind (settled (hops_n (walk_on x) s n) (walk_n (walk_on x) s n)) (in_room need room)
  -- the refusal is 6, 10, 11 or 12
  pub faults : (n k : ℕ) (vs : List ℕ) → walk_n (walk_on x) s n ≡ ended (fault k vs) → walk_fault k ≡ true
  -- a path is the walk's, and is written
  pub path : (n : ℕ) → o ≡ value (Some n) → PathRule x s n × Wrote (hops_n (walk_on x) s n)
  -- 13 exactly when it never ends, and exactly when it comes a second time to the same place, adapter and HopID
  pub never : (o ≡ refused 13 []) ↔ Never (walk_on x) s
  pub again : (o ≡ refused 13 []) ↔ Again (walk_on x) s
