-- Document 01, module 7, `Tunnel::discover`, on the rows of a loaded survey. Assumes nothing.
use Rattle.std.specs.Option.{option_to_list}
use Rattle.std.specs.Prelude.{ℕ, zero, suc, ◌+◌, ◌-◌, cond, Option, None, Some}
use mathlib.Core.List.{List, [], ◌∷◌, ◌++◌}
use Rattle.refusal.specs.Outcome.{Outcome, value, bind}
use Rattle.usb4.specs.declared.AdapterType.{AdapterType}
use Rattle.usb4.specs.declared.AdapterType.TheVariants as type
use Rattle.usb4.specs.declared.TunnelType.{TunnelType}
use Rattle.usb4.specs.declared.TunnelType.TheVariants as tunnel_type
use Rattle.state.specs.State.{is_enabled}
use Rattle.adapter.specs.Adapter.{AdapterRow, min_hop}
use Rattle.tables.specs.Rows.{EntryRow, Rows}
use Rattle.walk.specs.Rule.{walk_from}
use Rattle.walk.specs.Tables.{last_of}
use Rattle.receive.specs.Receive.{at, Receive, Receive.received, Receive.nothing, Receive.lost, receive}
use Rattle.tables.specs.declared.Stand.{Stand}

-- a path with its name, by document 01's numbers
pub record Path : Type 0 where
  pub name : ℕ
  pub hops : List EntryRow

pub record Tunnel : Type 0 where
  pub type : TunnelType
  pub paths : List Path

unfoldable pub path : ℕ → List EntryRow → Path
path n hs = record { name = n; hops = hs }

-- where a path leaves, at a HopID; a path has a hop
unfoldable pub leaving : ℕ → List EntryRow → Stand
leaving h [] = at 0 0 h
leaving h (e ∷ es) = let l = last_of e es in at l.device l.out_adapter h

-- a walk that must give a path: the Rust's `?`
unfoldable pub or_absent : {A : Type 0} → Option (List EntryRow) → (List EntryRow → Outcome (Option A)) → Outcome (Option A)
or_absent None f = value None
or_absent (Some hs) f = f hs

unfoldable pub needed : {A : Type 0} → Rows → Stand → (List EntryRow → Outcome (Option A)) → Outcome (Option A)
needed x s f = bind (walk_from x s) (λ o. or_absent o f)

unfoldable pub tunnel_of : TunnelType → List Path → Outcome (Option Tunnel)
tunnel_of t ps = value (Some (record { type = t; paths = ps }))

-- USB 3 and PCIe, HopID 8: down from the adapter, then up from where that path leaves
unfoldable pub down_and_up : Rows → TunnelType → ℕ → ℕ → ℕ → ℕ → Outcome (Option Tunnel)
down_and_up x t down up p a = needed x (at p a 8) (λ ds. needed x (leaving 8 ds) (λ us. tunnel_of t (path down ds ∷ path up us ∷ [])))

-- DisplayPort: Video at HopID 9, AUX TX at 8, then AUX RX at 8 from where AUX TX leaves
unfoldable pub display_port : Rows → ℕ → ℕ → Outcome (Option Tunnel)
display_port x p a =
    needed x (at p a 9) (λ vs. needed x (at p a 8) (λ ts. needed x (leaving 8 ts) (λ rs. tunnel_of tunnel_type.DisplayPort (path 2 vs ∷ path 3 ts ∷ path 4 rs ∷ []))))

-- a ring's paths: DMA TX, DMA RX, each if it is there
unfoldable pub tx_path : Option (List EntryRow) → List Path
tx_path None = []
tx_path (Some hs) = path 7 hs ∷ []

-- a ring's tunnel has a path
unfoldable pub with_paths : List Path → Option Tunnel
with_paths [] = None
with_paths (p ∷ ps) = Some (record { type = tunnel_type.Dma; paths = p ∷ ps })

-- where a lane adapter is missing the tunnel is dropped, and its DMA TX path with it
unfoldable pub ring_tunnel : Option (List EntryRow) → Receive → Option Tunnel
ring_tunnel tx (received hs) = with_paths (tx_path tx ++ (path 8 hs ∷ []))
ring_tunnel tx nothing = with_paths (tx_path tx)
ring_tunnel tx lost = None

-- `discover_one_dma`: the ring's DMA TX path is sought first
unfoldable pub one_dma : Rows → ℕ → ℕ → ℕ → Outcome (Option Tunnel)
one_dma x p a ring = bind (walk_from x (at p a ring)) (λ tx. bind (receive x ring) (λ r. value (ring_tunnel tx r)))

-- k rings from h on
unfoldable pub rings : Rows → ℕ → ℕ → ℕ → ℕ → Outcome (List Tunnel)
rings x p a h zero = value []
rings x p a h (suc k) = bind (one_dma x p a h) (λ t. bind (rings x p a (suc h) k) (λ ts. value (option_to_list t ++ ts)))

unfoldable pub or_none : {A B : Type 0} → Option A → (A → Outcome (Option B)) → Outcome (Option B)
or_none None f = value None
or_none (Some a) f = f a

-- `discover_dma`: the rings of a host interface, its least HopID to its largest, or 6; absent without these
unfoldable pub dma : Rows → ℕ → AdapterRow → Outcome (Option (List Tunnel))
dma x p y = or_none (min_hop y.kind) (λ lo. bind y.max_hop (λ m. or_none m (λ hi. bind (rings x p y.number lo (hi + 1 - lo)) (λ ts. value (Some ts)))))

-- a list of one tunnel, or absent
unfoldable pub alone : Option Tunnel → Outcome (Option (List Tunnel))
alone None = value None
alone (Some t) = value (Some (t ∷ []))

-- by the adapter's kind
unfoldable pub of_kind : Rows → ℕ → AdapterRow → AdapterType → Outcome (Option (List Tunnel))
of_kind x p y type.Unknown = value None
of_kind x p y type.Inactive = value None
of_kind x p y type.Lane = value None
of_kind x p y type.HostInterface = dma x p y
of_kind x p y type.DisplayPortIn = bind (display_port x p y.number) alone
of_kind x p y type.DisplayPortOut = value None
of_kind x p y type.PcieDown = bind (down_and_up x tunnel_type.Pcie 5 6 p y.number) alone
of_kind x p y type.PcieUp = value None
of_kind x p y type.Usb3Down = bind (down_and_up x tunnel_type.Usb3 0 1 p y.number) alone
of_kind x p y type.Usb3Up = value None
of_kind x p y type.Usb3GenTDown = value None
of_kind x p y type.Usb3GenTUp = value None

-- `discover`: a disabled adapter or one of another kind has none
unfoldable pub discover : Rows → ℕ → AdapterRow → Outcome (Option (List Tunnel))
discover x p y = cond (is_enabled y.kind y.state) (of_kind x p y y.kind) (value None)
