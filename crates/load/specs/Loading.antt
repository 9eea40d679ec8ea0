-- Document 01, "When it says no": what a survey loads to, device by device, and the first refusal on the way. Assumes nothing.
use Rattle.std.specs.Prelude.{ℕ, suc, ◌%◌, Bool, cond, not, ◌&&◌, List, [], ◌∷◌, map, eqb, length, Option, None, Some}
use Rattle.refusal.specs.Outcome.{Outcome, value, bind}
use Rattle.refusal.specs.Refusal.{refusal_of}
use Rattle.refusal.specs.declared.Site.{Site}
use Rattle.refusal.specs.declared.Fault.TheVariants.{FewRegisters, BadAdapters, NoPathDump}
use Rattle.util.specs.Text.{bytes_of}
use Rattle.usb4.specs.Codes.{device_kind_of}
use Rattle.layout.specs.Description.{Description}
use Rattle.description.specs.Rules.{read_descriptions}
use Rattle.survey.specs.Devices.{Device, Adapter, read_survey}
use Rattle.numbering.specs.Numbered.{numbered}
use Rattle.named.specs.Named.{Named, router_space, by_name, wanted_field}
use Rattle.adapter.specs.Adapter.{AdapterRow, adapter_site, decode_of}
use Rattle.adapter.specs.Paths.{PathEntry, entries_of}
use Rattle.tables.specs.Rows.{EntryRow, DeviceRow, Rows, no_rows, joined}

-- the number of a router among device kinds
abbrev pub router : ℕ
router = 1

-- the path dump was looked for and is missing
abbrev pub missing : ℕ
missing = 2

-- the router itself
unfoldable pub itself : ℕ → Site
itself p = adapter_site p 0

-- rows of one part, then those of the next
unfoldable pub and_then : Outcome Rows → Outcome Rows → Outcome Rows
and_then a b = bind a (λ x. bind b (λ y. value (joined x y)))

-- an entry with its device's place and its adapter's number
unfoldable pub owned : ℕ → ℕ → PathEntry → EntryRow
owned p a e = record { device = p; adapter = a; in_hop = e.in_hop; out_adapter = e.out_adapter; out_hop = e.out_hop }

unfoldable pub own_rows : ℕ → AdapterRow → List PathEntry → Rows
own_rows p x es = record { entries = map (owned p x.number) es; adapters = x ∷ []; devices = [] }

-- each adapter: 5, state (6 or 8 as met), 9, entries (6)
unfoldable pub load_adapter : List Description → ℕ → Bool → Adapter → Outcome Rows
load_adapter ds p usb4 a =
    bind (decode_of ds p usb4 a)
    (λ x. cond (eqb a.paths missing && not x.lane1) (refusal_of (NoPathDump (adapter_site p a.number)))
    (bind (entries_of ds (adapter_site p a.number) a) (λ es. value (own_rows p x es))))

unfoldable pub load_adapters : List Description → ℕ → Bool → List Adapter → Outcome Rows
load_adapters ds p usb4 [] = value no_rows
load_adapters ds p usb4 (a ∷ rest) = and_then (load_adapter ds p usb4 a) (load_adapters ds p usb4 rest)

-- ROUTER_CS_1 of a router whose registers were read
unfoldable pub router_cs1 : List Description → Device → Option Named
router_cs1 ds d = cond (eqb d.kind router && d.read) (by_name ds router_space 0 (bytes_of "ROUTER_CS_1") d.registers) None

-- `upstream_adapter`: none without ROUTER_CS_1, else its field modulo 256, or 6
unfoldable pub upstream_in : ℕ → Option Named → Outcome (Option ℕ)
upstream_in p None = value None
upstream_in p (Some n) = bind (wanted_field (itself p) n (bytes_of "Upstream Adapter")) (λ v. value (Some (v % 256)))

unfoldable pub device_row : List Description → ℕ → Device → DeviceRow
device_row ds p d = record { kind = device_kind_of d.kind; usb4 = d.usb4; domain = d.domain; route = d.route; upstream = upstream_in p (router_cs1 ds d) }

unfoldable pub device_rows : List Description → ℕ → Device → Rows
device_rows ds p d = record { entries = []; adapters = []; devices = device_row ds p d ∷ [] }

-- a device that has adapters: 7 for kind or name, 6 for Max then Upstream Adapter, 7 for the numbers
unfoldable pub fitting : ℕ → List Adapter → Option Named → Outcome Unit
fitting p adapters None = refusal_of (BadAdapters p)
fitting p adapters (Some n) =
    bind (wanted_field (itself p) n (bytes_of "Max Adapter"))
    (λ most. bind (wanted_field (itself p) n (bytes_of "Upstream Adapter"))
    (λ up. cond (numbered 1 (most % 256) adapters) (value tt) (refusal_of (BadAdapters p))))

unfoldable pub fits : List Description → ℕ → Device → List Adapter → Outcome Unit
fits ds p d [] = value tt
fits ds p d (a ∷ rest) = fitting p (a ∷ rest) (router_cs1 ds d)

-- 5: registers read, but a router has none
unfoldable pub no_registers : Device → Bool
no_registers d = d.read && eqb (length d.registers) 0

-- 5; whether its adapters fit; then each adapter
unfoldable pub load_device : List Description → ℕ → Device → Outcome Rows
load_device ds p d =
    cond (no_registers d) (refusal_of (FewRegisters (itself p)))
    (bind (fits ds p d d.adapters) (λ ok. and_then (value (device_rows ds p d)) (load_adapters ds p d.usb4 d.adapters)))

-- device by device, from a place on
unfoldable pub load_from : List Description → ℕ → List Device → Outcome Rows
load_from ds p [] = value no_rows
load_from ds p (d ∷ rest) = and_then (load_device ds p d) (load_from ds (suc p) rest)

-- 3, then 4, then loading: a survey that comes to a value is accepted
unfoldable pub loaded : List ℕ → List ℕ → Outcome Rows
loaded t s = bind (read_descriptions t) (λ ds. bind (read_survey s) (λ devices. load_from ds 0 devices))

-- N: the valid path entries
abbrev pub valid_entries : Rows → ℕ
valid_entries x = length x.entries
