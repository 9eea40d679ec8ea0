-- Document 01, what the program prints: the lines of result words. Assumes nothing.
use Rattle.std.specs.Prelude.{ℕ, ◌/◌, ◌%◌, Bool, cond, List, [], ◌++◌, eqb, get_or}
use Rattle.util.specs.Text.{bytes_of}
use Rattle.print.specs.Print.{decimal}

-- a head word's top four bits are its kind: 8 tunnel, 9 path, 10 hop
unfoldable pub kind_of : ℕ → ℕ
kind_of w = w / 268435456

unfoldable pub is_tunnel : ℕ → Bool
is_tunnel w = eqb (kind_of w) 8

unfoldable pub is_hop : ℕ → Bool
is_hop w = eqb (kind_of w) 10

-- in the order of `Type` in tunnel.rs, as the Rust prints them; no other number is a type's
unfoldable pub type_name : ℕ → List ℕ
type_name n =
    cond (eqb n 0) (bytes_of "USB 3")
    (cond (eqb n 1) (bytes_of "DisplayPort")
    (cond (eqb n 2) (bytes_of "PCIe")
    (cond (eqb n 3) (bytes_of "DMA") [])))

-- names of paths; a single walk's path has none
unfoldable pub path_name : ℕ → List ℕ
path_name n =
    cond (eqb n 0) (bytes_of "USB 3 Down")
    (cond (eqb n 1) (bytes_of "USB 3 Up")
    (cond (eqb n 2) (bytes_of "Video")
    (cond (eqb n 3) (bytes_of "AUX TX")
    (cond (eqb n 4) (bytes_of "AUX RX")
    (cond (eqb n 5) (bytes_of "PCIe Down")
    (cond (eqb n 6) (bytes_of "PCIe Up")
    (cond (eqb n 7) (bytes_of "DMA TX")
    (cond (eqb n 8) (bytes_of "DMA RX") []))))))))

-- a hop's device place, in adapter and out adapter
unfoldable pub place_of : ℕ → ℕ
place_of w = w / 65536 % 4096

unfoldable pub in_adapter : ℕ → ℕ
in_adapter w = w / 256 % 256

unfoldable pub out_adapter : ℕ → ℕ
out_adapter w = w % 256

-- a tunnel: its kind, its source, which is the first hop of its first path, its number of paths, closed or open
unfoldable pub tunnel_line : ℕ → ℕ → List ℕ
tunnel_line w hop =
    type_name (w % 16) ++ bytes_of " from " ++ decimal (place_of hop) ++ bytes_of ":" ++ decimal (in_adapter hop) ++ bytes_of " paths " ++ decimal (w / 256 % 256)
    ++ cond (eqb (w / 65536 % 2) 1) (bytes_of " closed\n") (bytes_of " open\n")

-- a path: its name and its number of hops
unfoldable pub path_line : ℕ → List ℕ
path_line w = path_name (w / 65536 % 16) ++ bytes_of " hops " ++ decimal (w % 65536) ++ bytes_of "\n"

-- a hop: device place, in adapter, in HopID, out adapter, out HopID
unfoldable pub hop_line : ℕ → ℕ → List ℕ
hop_line w ids =
    decimal (place_of w) ++ bytes_of " " ++ decimal (in_adapter w) ++ bytes_of " " ++ decimal (ids / 65536) ++ bytes_of " " ++ decimal (out_adapter w) ++ bytes_of " " ++ decimal (ids % 65536) ++ bytes_of "\n"

-- the line of the head that words begin with; a word of another kind has none. What lies past the words counts as 0.
unfoldable pub line_of : List ℕ → List ℕ
line_of ws =
    cond (is_tunnel (get_or ws 0 0)) (tunnel_line (get_or ws 0 0) (get_or ws 2 0))
    (cond (eqb (kind_of (get_or ws 0 0)) 9) (path_line (get_or ws 0 0))
    (cond (is_hop (get_or ws 0 0)) (hop_line (get_or ws 0 0) (get_or ws 1 0)) []))
