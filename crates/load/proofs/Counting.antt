-- Laws on the numbers of rows that a survey loads to. Assumes nothing.
use Prim.Native.Nat.{ℕ, suc, ◌+◌}
use native.Mathlib.Omega.{arith}
use mathlib.Core.Path.{◌≡◌, refl, sym}
use mathlib.Core.Bool.{Bool, not, ◌&&◌}
use mathlib.Core.List.{List, [], ◌∷◌}
use lib.Dec.{eqb}
use lib.ListN.{length, length-append}
use Rattle.refusal.specs.Outcome.{Outcome, value}
use Rattle.layout.specs.Description.{Description}
use Rattle.survey.specs.Devices.{Adapter, Device}
use Rattle.adapter.specs.Adapter.{adapter_site, decode_of}
use Rattle.adapter.specs.Paths.{entries_of}
use Rattle.tables.specs.Rows.{Rows, joined}
use Rattle.load.specs.Loading.{missing, and_then, own_rows, load_adapter, load_adapters, device_rows, fits, no_registers, load_device, load_from}
use Rattle.load.proofs.Order.{Holds, holds_value, holds_bind, holds_map, holds_any, holds_fault, holds_cond}

pub devices_add : (x y : Rows) → length (joined x y).devices ≡ length x.devices + length y.devices
unfolding joined
devices_add x y = length-append x.devices y.devices

-- a device loads to one device row
abbrev DeviceCount : ℕ → Rows → Type 0
DeviceCount n x = length x.devices ≡ n

count_then : (n m : ℕ) (a b : Outcome Rows) → Holds (DeviceCount n) a → Holds (DeviceCount m) b → Holds (DeviceCount (n + m)) (and_then a b)
unfolding and_then
count_then n m a b h k = holds_bind a _ h (λ x e. holds_bind b _ k (λ y f. holds_value (omega (arith, devices_add x y))))

module _ (ds : List Description) (p : ℕ) where
  count_adapters : (usb4 : Bool) (xs : List Adapter) → Holds (DeviceCount 0) (load_adapters ds p usb4 xs)
  unfolding load_adapters load_adapter own_rows
  count_adapters usb4 [] = holds_value refl
  count_adapters usb4 (a ∷ xs) =
      count_then 0 0 (load_adapter ds p usb4 a) (load_adapters ds p usb4 xs)
      (holds_bind (decode_of ds p usb4 a) _ holds_any (λ x z. holds_cond (eqb a.paths missing && not x.lane1) _ _ (λ t. holds_fault _) (λ t. holds_bind (entries_of ds (adapter_site p a.number) a) _ holds_any (λ es z. holds_value refl))))
      (count_adapters usb4 xs)

  count_device : (d : Device) → Holds (DeviceCount 1) (load_device ds p d)
  unfolding load_device device_rows
  count_device d =
      holds_cond (no_registers d) _ _ (λ t. holds_fault _)
      (λ t. holds_bind (fits ds p d d.adapters) _ holds_any (λ ok z. count_then 1 0 (value (device_rows ds p d)) (load_adapters ds p d.usb4 d.adapters) (holds_value refl) (count_adapters d.usb4 d.adapters)))

-- so where a device was put, there is one more
pub device_more : (ds : List Description) (p : ℕ) (d : Device) (x y : Rows) → value y ≡ and_then (value x) (load_device ds p d) → length y.devices ≡ suc (length x.devices)
device_more ds p d x y e =
    let n = (count_then (length x.devices) 1 (value x) (load_device ds p d) (holds_value refl) (count_device ds p d)).by y (sym e) in
    omega (arith, n)

count_devices : (ds : List Description) (p : ℕ) (xs : List Device) → Holds (DeviceCount (length xs)) (load_from ds p xs)
unfolding load_from
count_devices ds p [] = holds_value refl
count_devices ds p (x ∷ xs) =
    holds_map (count_then 1 (length xs) (load_device ds p x) (load_from ds (suc p) xs) (count_device ds p x) (count_devices ds (suc p) xs)) (λ r e. omega arith)

pub devices_count : (ds : List Description) (p : ℕ) (xs : List Device) (x : Rows) → load_from ds p xs ≡ value x → length x.devices ≡ length xs
devices_count ds p xs x e = (count_devices ds p xs).by x e
