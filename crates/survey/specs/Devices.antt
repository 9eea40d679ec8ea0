-- The devices that a survey's words are, each with its registers and adapters. Assumes nothing.
use Rattle.std.specs.Prelude.{ℕ, ◌+◌, ◌*◌, Bool, cond, List, [], ◌∷◌, eqb}
use Rattle.refusal.specs.Outcome.{Outcome, value, bind}
use Rattle.layout.specs.Layout.{bits, low, kind}
use Rattle.register.specs.Line.{register_of}
use Rattle.register.specs.declared.Register.{Register}
use Rattle.survey.specs.Words.{Group, group, cut, groups_of}
use Rattle.survey.specs.Rules.{check_of}

-- an adapter: its number, whether its registers were read, its path dump (0 not read, 1 read, 2 looked for and missing), its registers and its path registers
pub record Adapter : Type 0 where
  pub number : ℕ
  pub read : Bool
  pub paths : ℕ
  pub registers : List Register
  pub entries : List Register

-- a device: its kind's number, whether it is USB4, whether its registers were read, where it stands, its registers and its adapters
pub record Device : Type 0 where
  pub kind : ℕ
  pub usb4 : Bool
  pub read : Bool
  pub domain : ℕ
  pub route : ℕ
  pub registers : List Register
  pub adapters : List Adapter

-- groups read from the end: the devices so far, and what waits for the head before it
pub record Gathered : Type 0 where
  pub registers : List Register
  pub entries : List Register
  pub adapters : List Adapter
  pub devices : List Device

abbrev pub nothing : Gathered
nothing = record { registers = []; entries = []; adapters = []; devices = [] }

-- head, relative × 65,536 + cap, vs, value
unfoldable pub register_in : ℕ → ℕ → ℕ → ℕ → Register
register_in w ids vs v = register_of (low w 15) (bits ids 16 31) (low ids 15) vs v

unfoldable pub with_register : ℕ → Register → Gathered → Gathered
with_register path r g =
    cond (eqb path 0)
    (record { registers = r ∷ g.registers; entries = g.entries; adapters = g.adapters; devices = g.devices })
    (record { registers = g.registers; entries = r ∷ g.entries; adapters = g.adapters; devices = g.devices })

unfoldable pub with_adapter : ℕ → Gathered → Gathered
with_adapter w g = record {
  registers = [];
  entries = [];
  adapters = record { number = low w 7; read = eqb (bits w 8 8) 1; paths = bits w 9 10; registers = g.registers; entries = g.entries } ∷ g.adapters;
  devices = g.devices;
}

unfoldable pub with_device : ℕ → ℕ → ℕ → ℕ → Gathered → Gathered
with_device w domain low' high g = record {
  registers = [];
  entries = [];
  adapters = [];
  devices = record { kind = bits w 24 27; usb4 = eqb (bits w 0 0) 1; read = eqb (bits w 1 1) 1; domain = domain; route = low' + high * 4294967296; registers = g.registers; adapters = g.adapters } ∷ g.devices;
}

unfoldable pub with_group : Group → Gathered → Gathered
with_group cut g = g
with_group (group w a b c) g =
    cond (eqb (kind w) 3) (with_device w a b c g)
    (cond (eqb (kind w) 4) (with_adapter w g)
    (cond (eqb (kind w) 5) (with_register (bits w 16 16) (register_in w a b c) g) g))

unfoldable pub gather : List Group → Gathered
gather [] = nothing
gather (x ∷ xs) = with_group x (gather xs)

unfoldable pub devices_of : List ℕ → List Device
devices_of t = (gather (groups_of t)).devices

-- the devices of a survey that is well formed
unfoldable pub read_survey : List ℕ → Outcome (List Device)
read_survey t = bind (check_of t) (λ ok. value (devices_of t))
