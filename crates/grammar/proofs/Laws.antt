-- Laws on the items of a text's lines. Assumes nothing.
use Prim.Native.Nat.{ℕ, ◌+◌, ◌-◌, ◌<◌, ◌≤◌}
use native.Mathlib.Omega.{arith}
use mathlib.Core.Path.{◌≡◌, ap}
use mathlib.Core.List.{List, [], ◌∷◌, map}
use lib.ListN.{length, take, drop}
use Rattle.scan.specs.Scan.{is_line_feed, place_from}
use Rattle.scan.proofs.Laws.{line_at, lines_end, place_above, place_within}
use Rattle.grammar.specs.Grammar.{item_of, items_of}

-- the item at a place, and those after it
module _ (t : List ℕ) (at : ℕ) where
  pub items_at : (e : ℕ) → e ≡ place_from is_line_feed t at → at < length t → items_of (drop at t) ≡ item_of (take (e - at) (drop at t)) ∷ items_of (drop (e + 1) t)
  unfolding items_of
  items_at e q h = ap (λ ls. map item_of ls) (line_at t at e q h)

  pub items_end : length t ≤ at → items_of (drop at t) ≡ []
  unfolding items_of
  items_end h = ap (λ ls. map item_of ls) (lines_end t at h)

  -- the line's end
  pub end_in : (e : ℕ) → e ≡ place_from is_line_feed t at → at < length t → (at ≤ e) × (e ≤ length t)
  end_in e q h = (rw q (place_above is_line_feed t at), rw q (place_within is_line_feed t at (omega arith)))
