-- Document 01, result words of tunnels, and the closed mark. Assumes nothing.
use Rattle.std.specs.Prelude.{ℕ, ◌+◌, ◌*◌, Bool, false, cond, ◌&&◌, List, [], ◌∷◌, ◌++◌, eqb, length}
use Rattle.usb4.specs.Numbers.{tunnel_number}
use Rattle.tables.specs.Rows.{EntryRow}
use Rattle.walk.specs.Tables.{last_of}
use Rattle.path.specs.Words.{path_words}
use Rattle.tunnel.specs.Tunnels.{Path, Tunnel}

-- a path leaves by the device and adapter where another entered
unfoldable pub back_to : List EntryRow → List EntryRow → Bool
back_to [] ls = false
back_to (e ∷ es) [] = false
back_to (e ∷ es) (l ∷ ls) = let o = last_of l ls in eqb o.device e.device && eqb o.out_adapter e.adapter

unfoldable pub last_path : Path → List Path → Path
last_path p [] = p
last_path p (q ∷ qs) = last_path q qs

-- closed: more than one path, and the last path leaves by the device and adapter where the first entered
unfoldable pub closed_by : List Path → Bool
closed_by [] = false
closed_by (p ∷ []) = false
closed_by (p ∷ (q ∷ qs)) = back_to p.hops (last_path q qs).hops

unfoldable pub closed : Tunnel → Bool
closed t = closed_by t.paths

unfoldable pub paths_words : List Path → List ℕ
paths_words [] = []
paths_words (p ∷ ps) = path_words p.name p.hops ++ paths_words ps

-- a tunnel: kind 8, its type, its number of paths, the closed mark; then its paths
unfoldable pub tunnel_word : Tunnel → ℕ
tunnel_word t = 8 * 268435456 + cond (closed t) 65536 0 + length t.paths * 256 + tunnel_number t.type

unfoldable pub tunnel_words : Tunnel → List ℕ
tunnel_words t = tunnel_word t ∷ paths_words t.paths

unfoldable pub tunnels_words : List Tunnel → List ℕ
tunnels_words [] = []
tunnels_words (t ∷ ts) = tunnel_words t ++ tunnels_words ts
