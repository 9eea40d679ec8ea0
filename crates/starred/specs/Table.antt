-- Document 01, "Lines and routes at the edge": the starred lines, as a table over the definitions. Assumes nothing.
use Rattle.std.specs.Prelude.{ℕ, ◌^◌, ◌≡◌, List, [], ◌∷◌, Option, None, Some}
use Prim.Native.String.{String}
use Rattle.refusal.specs.Outcome.{Outcome, refused, value}
use Rattle.util.specs.Bits.{bits_of}
use Rattle.util.specs.Text.{bytes_of}
use Rattle.route.specs.Route.{depth_of, upstream_route}
use Rattle.description.specs.Rules.{read_descriptions}
use Rattle.metadata.specs.Ours.{ours}
use Rattle.tables.specs.Rows.{EntryRow}
use Rattle.walks.specs.Calls.{path_answer}
use Rattle.tunnel.specs.Tunnels.{Tunnel}
use Rattle.discoveries.specs.Calls.{discover_answer}
use Rattle.register.specs.Line.{line_answer, register_of}
use Rattle.register.specs.declared.Register.{Register}

pub data Row : Type 0 where
  -- a line, and the record that it gives, or none
  line : String → Option Register → Row
  -- a word, two bit places, and the number that the bits from the one to the other are
  field : ℕ → ℕ → ℕ → ℕ → Row
  -- a route and its depth
  depth : ℕ → ℕ → Row
  -- a route, its parent route and the depth of that
  parent : ℕ → ℕ → ℕ → Row
  -- survey words; the place, adapter and HopID from which a walk starts; what the call for it answers under words that are our descriptions
  walk : List ℕ → ℕ → ℕ → ℕ → Outcome (Option (List EntryRow)) → Row
  -- survey words; the place and adapter whose tunnels are asked for; what that call answers under words that are our descriptions
  tunnels : List ℕ → ℕ → ℕ → Outcome (Option (List Tunnel)) → Row

-- what a row says
unfoldable pub Holds : Row → Type 0
Holds (line text answer) = line_answer (bytes_of text) ≡ value answer
Holds (field word low high number) = bits_of word low high ≡ number
Holds (depth route d) = depth_of route ≡ d
Holds (parent route up d) = (upstream_route route ≡ Some up) × (depth_of up ≡ d)
Holds (walk words p a h end) = (t : List ℕ) → read_descriptions t ≡ value ours → path_answer t words (record { place = p; adapter = a; hop_id = h }) ≡ end
Holds (tunnels words p a end) = (t : List ℕ) → read_descriptions t ≡ value ours → discover_answer t words p a ≡ end

unfoldable pub All : List Row → Type 0
All [] = Unit {0}
All (r ∷ rs) = Holds r × All rs

-- the worked input with path word 0x80000808 at lane adapter 1 of both routers
unfoldable pub ring : List ℕ
ring =
    822083586 ∷ 0 ∷ 0 ∷ 0 ∷ 1342177281 ∷ 65536 ∷ 0 ∷ 49920
    ∷ 1073742593 ∷ 1342177280 ∷ 0 ∷ 0 ∷ 0 ∷ 1342177281 ∷ 65536 ∷ 0
    ∷ 0 ∷ 1342177282 ∷ 131072 ∷ 0 ∷ 1 ∷ 1342242832 ∷ 0 ∷ 0
    ∷ 2147485704 ∷ 1073742594 ∷ 1342177280 ∷ 0 ∷ 0 ∷ 0 ∷ 1342177281 ∷ 65536
    ∷ 0 ∷ 0 ∷ 1342177282 ∷ 131072 ∷ 0 ∷ 1048833 ∷ 1342177337 ∷ 4
    ∷ 0 ∷ 2147483648 ∷ 1342242832 ∷ 0 ∷ 0 ∷ 2147485704 ∷ 1073742083 ∷ 1342177280
    ∷ 0 ∷ 0 ∷ 0 ∷ 1342177281 ∷ 65536 ∷ 0 ∷ 0 ∷ 1342177282
    ∷ 131072 ∷ 0 ∷ 2 ∷ 822083586 ∷ 0 ∷ 1 ∷ 0 ∷ 1342177281
    ∷ 65536 ∷ 0 ∷ 33024 ∷ 1073742593 ∷ 1342177280 ∷ 0 ∷ 0 ∷ 0
    ∷ 1342177281 ∷ 65536 ∷ 0 ∷ 0 ∷ 1342177282 ∷ 131072 ∷ 0 ∷ 1
    ∷ 1342242832 ∷ 0 ∷ 0 ∷ 2147485704 ∷ 1073742594 ∷ 1342177280 ∷ 0 ∷ 0
    ∷ 0 ∷ 1342177281 ∷ 65536 ∷ 0 ∷ 0 ∷ 1342177282 ∷ 131072 ∷ 0
    ∷ 1048834 ∷ 1342242832 ∷ 0 ∷ 0 ∷ 2147485704
    ∷ []

-- the worked input with its routers at routes 1 and 0x010001
unfoldable pub apart : List ℕ
apart =
    822083586 ∷ 0 ∷ 1 ∷ 0 ∷ 1342177281 ∷ 65536 ∷ 0 ∷ 49920
    ∷ 1073742593 ∷ 1342177280 ∷ 0 ∷ 0 ∷ 0 ∷ 1342177281 ∷ 65536 ∷ 0
    ∷ 0 ∷ 1342177282 ∷ 131072 ∷ 0 ∷ 1 ∷ 1342242832 ∷ 0 ∷ 0
    ∷ 2147487752 ∷ 1073742594 ∷ 1342177280 ∷ 0 ∷ 0 ∷ 0 ∷ 1342177281 ∷ 65536
    ∷ 0 ∷ 0 ∷ 1342177282 ∷ 131072 ∷ 0 ∷ 1048833 ∷ 1342177337 ∷ 4
    ∷ 0 ∷ 2147483648 ∷ 1342242832 ∷ 0 ∷ 0 ∷ 2147485704 ∷ 1073742083 ∷ 1342177280
    ∷ 0 ∷ 0 ∷ 0 ∷ 1342177281 ∷ 65536 ∷ 0 ∷ 0 ∷ 1342177282
    ∷ 131072 ∷ 0 ∷ 2 ∷ 822083586 ∷ 0 ∷ 65537 ∷ 0 ∷ 1342177281
    ∷ 65536 ∷ 0 ∷ 33024 ∷ 1073742593 ∷ 1342177280 ∷ 0 ∷ 0 ∷ 0
    ∷ 1342177281 ∷ 65536 ∷ 0 ∷ 0 ∷ 1342177282 ∷ 131072 ∷ 0 ∷ 1
    ∷ 1342242832 ∷ 0 ∷ 0 ∷ 2147487752 ∷ 1073742594 ∷ 1342177280 ∷ 0 ∷ 0
    ∷ 0 ∷ 1342177281 ∷ 65536 ∷ 0 ∷ 0 ∷ 1342177282 ∷ 131072 ∷ 0
    ∷ 1048834 ∷ 1342242832 ∷ 0 ∷ 0 ∷ 2147485704
    ∷ []

-- a host router with one adapter, a HostInterface whose ADP_CS_5 is 0
unfoldable pub host : List ℕ
host =
    822083586 ∷ 0 ∷ 0 ∷ 0 ∷ 1342177281 ∷ 65536 ∷ 0 ∷ 16640
    ∷ 1073742081 ∷ 1342177280 ∷ 0 ∷ 0 ∷ 0 ∷ 1342177281 ∷ 65536 ∷ 0
    ∷ 0 ∷ 1342177282 ∷ 131072 ∷ 0 ∷ 2 ∷ 1342177285 ∷ 327680 ∷ 0
    ∷ 0
    ∷ []

unfoldable pub starred : List Row
starred =
    line "0x10 0 junk 1" (Some (register_of 16 0 0 0 1))
    ∷ line "39 0 4 0 80000000" (Some (register_of 57 0 4 0 0x80000000))
    ∷ line "0x10 0 1" None
    ∷ line "10000 0 0 0" None
    ∷ line "ffff 65535 0 0" (Some (register_of 65535 65535 0 0 0))
    ∷ line "+10 +2 0 0x+1" (Some (register_of 16 2 0 0 1))
    ∷ field 0x80000808 11 16 1
    ∷ depth 0 0
    ∷ depth 0xff 1
    ∷ depth 0x100 2
    ∷ depth (2 ^ 56) 8
    ∷ parent 0x010001 1 1
    ∷ walk apart 1 2 8 (value None)
    ∷ walk ring 0 2 8 (refused 13 [])
    ∷ tunnels ring 0 2 (refused 13 [])
    ∷ tunnels host 0 1 (value (Some []))
    ∷ []
