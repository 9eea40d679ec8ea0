-- Where a device's group stands: its head up to the next device's head. Assumes nothing.
use Rattle.std.specs.Prelude.{ℕ, suc, ◌+◌, Bool, false, cond, List, [], ◌∷◌, ltb, eqb, length, get_or, Option, None, Some}
use Rattle.layout.specs.Layout.{kind}
use Rattle.survey.specs.Words.{Group, group, cut, groups_of}
use Rattle.survey.specs.Rules.{size_by}
use Rattle.survey.specs.declared.Bounds.{Bounds}

unfoldable pub is_device : Group → Bool
is_device (group w a b c) = eqb (kind w) 3
is_device cut = false

-- the places of device heads, where the first group here stands at i
unfoldable pub device_heads_from : ℕ → List Group → List ℕ
device_heads_from i [] = []
device_heads_from i (g ∷ gs) = cond (is_device g) (i ∷ device_heads_from (i + size_by g) gs) (device_heads_from (i + size_by g) gs)

unfoldable pub device_heads : List ℕ → List ℕ
device_heads t = device_heads_from 0 (groups_of t)

-- device p's group: from its head up to the next device's head, or the end
unfoldable pub group_at : List ℕ → ℕ → Option Bounds
group_at t p = cond (ltb p (length (device_heads t))) (Some (record { start = get_or (device_heads t) p 0; end = get_or (device_heads t) (suc p) (length t) })) None
