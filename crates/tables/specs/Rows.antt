-- What a survey loads to: three lists of records, each with its owner's place. Assumes nothing.
use Rattle.std.specs.Prelude.{ℕ, zero, suc, Bool, cond, ◌&&◌, List, [], ◌∷◌, ◌++◌, eqb, Option, None, Some}
use Rattle.refusal.specs.Outcome.{Outcome}
use Rattle.usb4.specs.Numbers.{device_kind_number}
use Rattle.usb4.specs.declared.Kind.{Kind}
use Rattle.usb4.specs.declared.Kind.TheVariants as kind
use Rattle.adapter.specs.Adapter.{AdapterRow}

-- a valid path entry, with its device's place and its adapter's number
pub record EntryRow : Type 0 where
  pub device : ℕ
  pub adapter : ℕ
  pub in_hop : ℕ
  pub out_adapter : ℕ
  pub out_hop : ℕ

-- a device; its upstream adapter with the 6 that comes only when it is asked for
pub record DeviceRow : Type 0 where
  pub kind : Kind
  pub usb4 : Bool
  pub domain : ℕ
  pub route : ℕ
  pub upstream : Outcome (Option ℕ)

-- entries and adapters in the survey's order; a device's place is its index
pub record Rows : Type 0 where
  pub entries : List EntryRow
  pub adapters : List AdapterRow
  pub devices : List DeviceRow

abbrev pub no_rows : Rows
no_rows = record { entries = []; adapters = []; devices = [] }

unfoldable pub joined : Rows → Rows → Rows
joined a b = record { entries = a.entries ++ b.entries; adapters = a.adapters ++ b.adapters; devices = a.devices ++ b.devices }

-- the first entry for a HopID at an adapter of a device
unfoldable pub entry_in : List EntryRow → ℕ → ℕ → ℕ → Option EntryRow
entry_in [] p a h = None
entry_in (e ∷ es) p a h = cond (eqb e.device p && eqb e.adapter a && eqb e.in_hop h) (Some e) (entry_in es p a h)

-- the adapter of a device with a number
unfoldable pub adapter_in : List AdapterRow → ℕ → ℕ → Option AdapterRow
adapter_in [] p a = None
adapter_in (x ∷ xs) p a = cond (eqb x.device p && eqb x.number a) (Some x) (adapter_in xs p a)

-- the device at a place
unfoldable pub device_in : List DeviceRow → ℕ → Option DeviceRow
device_in [] p = None
device_in (d ∷ ds) zero = Some d
device_in (d ∷ ds) (suc p) = device_in ds p

unfoldable pub is_router : DeviceRow → Bool
is_router d = eqb (device_kind_number d.kind) (device_kind_number kind.Router)

-- the place of the first router of a domain at a route, where the first device here has place p
unfoldable pub router_from : ℕ → List DeviceRow → ℕ → ℕ → Option ℕ
router_from p [] domain route = None
router_from p (d ∷ ds) domain route = cond (is_router d && eqb d.domain domain && eqb d.route route) (Some p) (router_from (suc p) ds domain route)
