-- A walk, hop by hop, over any states: what "ends after n hops", "never ends" and "comes again" mean. Assumes nothing.
use Rattle.std.specs.Prelude.{ℕ, zero, suc, ◌<◌, ◌≡◌, Bool, true, false, Option, None, Some}
use mathlib.Core.List.{List, [], ◌++◌}
use Rattle.std.specs.Option.{option_to_list}

-- where a hop leads: on to a state, or to an end
pub data Turn (S E : Type 0) : Type 0 where
  on : S → Turn S E
  ends : E → Turn S E

-- what a walk goes by: the hop to make at a state, if there is one, and where it leads
pub record Walk (S H E : Type 0) : Type 0 where
  pub hop : S → Option H
  pub next : S → H → Turn S E

-- where a walk is: at a state with a hop to make; at the end that its last hop led to; or stopped, at a state with no hop to make
pub data Spot (S E : Type 0) : Type 0 where
  stand : S → Spot S E
  ended : E → Spot S E
  stopped : Spot S E

-- there is a hop to make
unfoldable pub going : {S E : Type 0} → Spot S E → Bool
going (stand s) = true
going (ended e) = false
going stopped = false

-- at a state, by the hop found there
unfoldable pub found : {S H E : Type 0} → S → Option H → Spot S E
found s None = stopped
found s (Some h) = stand s

module _ {S H E : Type 0} (W : Walk S H E) where
  -- the spot of a walk that comes to a state
  unfoldable pub arrive : S → Spot S E
  arrive s = found s (W.hop s)

  -- the spot that a hop leads to
  unfoldable pub turned : Turn S E → Spot S E
  turned (on s) = arrive s
  turned (ends e) = ended e

  -- the spot after the hop found at a state
  unfoldable pub made : S → Option H → Spot S E
  made s None = stopped
  made s (Some h) = turned (W.next s h)

  -- one hop on; a walk that has ended or stopped stays as it is
  unfoldable pub onward : Spot S E → Spot S E
  onward (stand s) = made s (W.hop s)
  onward (ended e) = ended e
  onward stopped = stopped

  -- where the walk from s is after n hops
  unfoldable pub walk_n : S → ℕ → Spot S E
  walk_n s zero = arrive s
  walk_n s (suc n) = onward (walk_n s n)

  -- the hop made from a spot, if there is one
  unfoldable pub hop_at : Spot S E → List H
  hop_at (stand s) = option_to_list (W.hop s)
  hop_at (ended e) = []
  hop_at stopped = []

  -- the first n hops of the walk from s, in order; fewer if it ends before
  unfoldable pub hops_n : S → ℕ → List H
  hops_n s zero = []
  hops_n s (suc n) = hops_n s n ++ hop_at (walk_n s n)

  -- the walk from s makes n hops, and then there is none to make
  pub record EndsAfter (s : S) (n : ℕ) : Type 0 where
    pub hops : (k : ℕ) → k < n → going (walk_n s k) ≡ true
    pub over : going (walk_n s n) ≡ false

  -- no number of hops ends it
  abbrev pub Never : S → Type 0
  Never s = (n : ℕ) → going (walk_n s n) ≡ true

  -- it comes a second time to the same state
  abbrev pub Again : S → Type 0
  Again s = (i : ℕ) × (j : ℕ) × (x : S) × (i < j) × (walk_n s i ≡ stand x) × (walk_n s j ≡ stand x)

  -- no two of its first n hops are made at the same state
  abbrev pub Apart : S → ℕ → Type 0
  Apart s n = (i j : ℕ) (x : S) → i < j → j < n → walk_n s i ≡ stand x → walk_n s j ≡ stand x → ⊥
