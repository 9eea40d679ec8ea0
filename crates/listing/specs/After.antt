-- What stands from a place of survey words on: registers up to the next head, adapters up to the next device, devices. Assumes nothing.
use Rattle.std.specs.Prelude.{ℕ, ◌+◌, ◌*◌, ◌≤◌, ◌<◌, ◌≡◌, Bool, cond, List, ◌∷◌, eqb, length, drop}
use Rattle.layout.specs.Layout.{bits, low, word, kind}
use Rattle.register.specs.declared.Register.{Register}
use Rattle.survey.specs.Words.{groups_of}
use Rattle.survey.specs.Devices.{Adapter, Device, Gathered, register_in, gather}

-- what the groups from place i on come to
unfoldable pub after : List ℕ → ℕ → Gathered
after t i = gather (groups_of (drop i t))

-- registers up to the next head: those of path space, or of adapter space
unfoldable pub listed : Bool → Gathered → List Register
listed path g = cond path g.entries g.registers

-- the register whose group has its head at i
unfoldable pub register_at : List ℕ → ℕ → Register
register_at t i = register_in (word t i) (word t (i + 1)) (word t (i + 2)) (word t (i + 3))

-- the adapter whose head stands at i
unfoldable pub adapter_at : List ℕ → ℕ → Adapter
adapter_at t i = record {
  number = low (word t i) 7;
  read = eqb (bits (word t i) 8 8) 1;
  paths = bits (word t i) 9 10;
  registers = (after t (i + 1)).registers;
  entries = (after t (i + 1)).entries;
}

-- the device whose head stands at i
unfoldable pub device_at : List ℕ → ℕ → Device
device_at t i = record {
  kind = bits (word t i) 24 27;
  usb4 = eqb (bits (word t i) 0 0) 1;
  read = eqb (bits (word t i) 1 1) 1;
  domain = word t (i + 1);
  route = word t (i + 2) + word t (i + 3) * 4294967296;
  registers = (after t (i + 4)).registers;
  adapters = (after t (i + 4)).adapters;
}

-- The first register of the space from i on, before the next head, stands at r; the length where there is none. What stands from r on is fixed; where several places read the same, which of them r is, is free.
pub record NextRegister (t : List ℕ) (path : Bool) (i r : ℕ) : Type 0 where
  pub within : r ≤ length t
  pub room : r < length t → (i ≤ r) × (r + 4 ≤ length t)
  pub same : listed path (after t i) ≡ listed path (after t r)
  pub here : r < length t → listed path (after t r) ≡ register_at t r ∷ listed path (after t (r + 4))
  pub adapters : r < length t → (after t i).adapters ≡ (after t (r + 4)).adapters
  pub devices : r < length t → (after t i).devices ≡ (after t (r + 4)).devices

-- The first adapter or device from i on has its head at r; the length where there is none. Which r is, of several places that read the same, is free.
pub record NextHead (t : List ℕ) (i r : ℕ) : Type 0 where
  pub within : r ≤ length t
  pub forward : r < length t → i ≤ r
  pub adapters : (after t i).adapters ≡ (after t r).adapters
  pub devices : (after t i).devices ≡ (after t r).devices
  pub head : r < length t → (kind (word t r) ≡ 4 → ⊥) → (kind (word t r) ≡ 3) × (r + 4 ≤ length t)
