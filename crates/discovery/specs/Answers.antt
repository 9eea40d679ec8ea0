-- What discovery answers, and writes, on rows. Assumes nothing.
use Rattle.std.specs.Prelude.{ℕ, cond, List, [], ◌∷◌, ◌++◌, ltb, length, drop, Option, None, Some}
use Rattle.refusal.specs.Outcome.{Outcome, refused, value, bind}
use Rattle.tables.specs.Rows.{Rows}
use Rattle.load.specs.Answers.{asked_adapter}
use Rattle.tunnel.specs.Tunnels.{Tunnel, discover}
use Rattle.tunnel.specs.Words.{tunnels_words}

-- 14, then the tunnels of adapter a of the device at place p
unfoldable pub discover_at : Rows → ℕ → ℕ → Outcome (Option (List Tunnel))
discover_at x p a = bind (asked_adapter x p a) (λ y. discover x p y)

-- 2 last, with the words needed over the whole answer; absent and an empty list need none
unfoldable pub in_room : ℕ → Option (List Tunnel) → Outcome (Option ℕ)
in_room room None = value None
in_room room (Some ts) = cond (ltb room (length (tunnels_words ts))) (refused 2 (length (tunnels_words ts) ∷ [])) (value (Some (length (tunnels_words ts))))

-- the output as it was, but where tunnels are answered
unfoldable pub output_by : Outcome (Option (List Tunnel)) → List ℕ → List ℕ
output_by (refused n vs) old = old
output_by (value None) old = old
output_by (value (Some ts)) old = cond (ltb (length old) (length (tunnels_words ts))) old (tunnels_words ts ++ drop (length (tunnels_words ts)) old)
