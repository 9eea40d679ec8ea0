-- The results of the exported calls on a survey, on one adapter and for a single walk, as words. Assumes nothing.
use Rattle.std.specs.Prelude.{Option, None, Some, ℕ, ◌+◌, ◌*◌, cond, List, [], ◌∷◌, ltb}
use Rattle.usb4.specs.Numbers.{type_number, state_number, speed_number}
use Rattle.usb4.specs.declared.Speed.{Speed}
use Rattle.text.specs.Text.{bit}
use Rattle.acceptance.specs.declared.Acceptance.{Acceptance}
use Rattle.adapters.specs.declared.AdapterInfo.{AdapterInfo}

-- devices, valid entries
unfoldable pub counts_words : Acceptance → List ℕ
counts_words c = c.devices ∷ c.entries ∷ []

-- a least HopID; 65,536 says that there is none, since no HopID is so large
unfoldable pub hop_or : Option ℕ → ℕ
hop_or None = 65536
hop_or (Some h) = h

-- kind, state, lane 0, lane 1, least HopID, whether it is enabled
unfoldable pub info_words : AdapterInfo → List ℕ
info_words i = type_number i.kind ∷ state_number i.state ∷ bit i.lane0 ∷ bit i.lane1 ∷ hop_or i.min_hop ∷ bit i.enabled ∷ []

unfoldable pub speed_words : Speed → List ℕ
speed_words s = speed_number s ∷ []

-- the words of a path of n hops, a head and two words a hop; 0 where 64 bits can't hold them, which is no path's number
unfoldable pub hop_count_words : ℕ → List ℕ
hop_count_words n = cond (ltb n 9223372036854775808) (1 + 2 * n) 0 ∷ []
