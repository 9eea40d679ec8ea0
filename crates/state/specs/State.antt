-- Document 01, module 5: an adapter's state and link speed, by its kind and its registers. Assumes nothing.
use Rattle.std.specs.Prelude.{ℕ, zero, suc, ◌+◌, ◌*◌, ◌%◌, Bool, true, false, cond, ◌&&◌, ◌||◌, List, [], ◌∷◌, ltb, eqb, Option, None, Some}
use Rattle.refusal.specs.Outcome.{Outcome, value, bind}
use Rattle.refusal.specs.Refusal.{refusal_of}
use Rattle.refusal.specs.declared.Site.{Site}
use Rattle.refusal.specs.declared.Fault.TheVariants.{GenTOffset}
use Rattle.util.specs.Text.{bytes_of}
use Rattle.usb4.specs.Codes.{lane_state_of, speed_of}
use Rattle.usb4.specs.Numbers.{type_number, state_number}
use Rattle.usb4.specs.declared.AdapterType.{AdapterType}
use Rattle.usb4.specs.declared.AdapterType.TheVariants as type
use Rattle.usb4.specs.declared.State.{State}
use Rattle.usb4.specs.declared.State.TheVariants as state
use Rattle.usb4.specs.declared.Speed.{Speed}
use Rattle.usb4.specs.declared.Speed.TheVariants as speed
use Rattle.register.specs.declared.Register.{Register}
use Rattle.layout.specs.Description.{Description}
use Rattle.named.specs.Named.{Named, adapter_space, named, by_name, wanted_field, wanted_flag}

-- `register_by_offset`: the first register that stands there, named or not
unfoldable pub by_offset : ℕ → List Register → Option Register
by_offset o [] = None
by_offset o (r ∷ rs) = cond (eqb r.offset o) (Some r) (by_offset o rs)

-- the second flag is read only if the first is set
unfoldable pub both_set : Outcome Bool → Outcome Bool → Outcome Bool
both_set first second = bind first (λ f. cond f second (value false))

unfoldable pub enabled_if : Bool → State
enabled_if b = cond b state.Enabled state.Disabled

-- one flag, or two, of a register by name; Unknown without the register
unfoldable pub by_flag : Site → List ℕ → Option Named → Outcome State
by_flag s f None = value state.Unknown
by_flag s f (Some n) = bind (wanted_flag s n.register (Some n.description) f) (λ b. value (enabled_if b))

unfoldable pub by_flags : Site → List ℕ → List ℕ → Option Named → Outcome State
by_flags s f g None = value state.Unknown
by_flags s f g (Some n) = bind (both_set (wanted_flag s n.register (Some n.description) f) (wanted_flag s n.register (Some n.description) g)) (λ b. value (enabled_if b))

unfoldable pub lane_state : Site → Option Named → Outcome State
lane_state s None = value state.Unknown
lane_state s (Some n) = bind (wanted_field s n (bytes_of "Adapter State")) (λ v. value (lane_state_of v))

module _ (ds : List Description) (s : Site) (k : ℕ) (rs : List Register) where
  -- whether a Gen T port is enabled: the register at its offset, if there is one, by PE and then V
  unfoldable pub port_set : Option Register → Outcome Bool
  port_set None = value false
  port_set (Some r) = both_set (wanted_flag s r (named ds adapter_space k r) (bytes_of "PE")) (wanted_flag s r (named ds adapter_space k r) (bytes_of "V"))

  -- ports from p on, n of them: port p looks at offset cap + 3 + 2 × p, 8 past 65,535; an enabled port ends it
  unfoldable pub ports : ℕ → ℕ → ℕ → Outcome State
  ports cap p zero = value state.Disabled
  ports cap p (suc n) =
      cond (ltb 65535 (cap + 3 + 2 * p)) (refusal_of (GenTOffset s))
      (bind (port_set (by_offset (cap + 3 + 2 * p) rs)) (λ b. cond b (value state.Enabled) (ports cap (suc p) n)))

  unfoldable pub gen_tState : Option Named → Outcome State
  gen_tState None = value state.Unknown
  gen_tState (Some n) = bind (wanted_field s n (bytes_of "Gen T Port Count")) (λ c. ports n.register.offset 0 (c % 65536))

-- an adapter's register by name
unfoldable pub of_kind : List Description → AdapterType → List Register → List ℕ → Option Named
of_kind ds k rs name = by_name ds adapter_space (type_number k) name rs

-- `parse_state`, by the kind and the registers
unfoldable pub state_of : List Description → Site → AdapterType → List Register → Outcome State
state_of ds s type.Unknown rs = value state.Unknown
state_of ds s type.Inactive rs = value state.Unknown
state_of ds s type.Lane rs = lane_state s (of_kind ds type.Lane rs (bytes_of "LANE_ADP_CS_1"))
state_of ds s type.HostInterface rs = value state.Enabled
state_of ds s type.DisplayPortIn rs = by_flags s (bytes_of "VE") (bytes_of "AE") (of_kind ds type.DisplayPortIn rs (bytes_of "ADP_DP_CS_0"))
state_of ds s type.DisplayPortOut rs = by_flags s (bytes_of "VE") (bytes_of "AE") (of_kind ds type.DisplayPortOut rs (bytes_of "ADP_DP_CS_0"))
state_of ds s type.PcieDown rs = by_flag s (bytes_of "PE") (of_kind ds type.PcieDown rs (bytes_of "ADP_PCIE_CS_0"))
state_of ds s type.PcieUp rs = by_flag s (bytes_of "PE") (of_kind ds type.PcieUp rs (bytes_of "ADP_PCIE_CS_0"))
state_of ds s type.Usb3Down rs = by_flags s (bytes_of "PE") (bytes_of "V") (of_kind ds type.Usb3Down rs (bytes_of "ADP_USB3_GX_CS_0"))
state_of ds s type.Usb3Up rs = by_flags s (bytes_of "PE") (bytes_of "V") (of_kind ds type.Usb3Up rs (bytes_of "ADP_USB3_GX_CS_0"))
state_of ds s type.Usb3GenTDown rs = gen_tState ds s (type_number type.Usb3GenTDown) rs (of_kind ds type.Usb3GenTDown rs (bytes_of "ADP_USB3_GT_CS_0"))
state_of ds s type.Usb3GenTUp rs = gen_tState ds s (type_number type.Usb3GenTUp) rs (of_kind ds type.Usb3GenTUp rs (bytes_of "ADP_USB3_GT_CS_0"))

-- states in which a lane has a speed
unfoldable pub has_speed : State → Bool
has_speed state.Unknown = false
has_speed state.Disabled = false
has_speed state.Enabled = false
has_speed state.Training = false
has_speed state.Cl0 = true
has_speed state.Cl0sTx = true
has_speed state.Cl0sRx = true
has_speed state.Cl1 = true
has_speed state.Cl2 = true
has_speed state.Cld = false

unfoldable pub speed_in : Site → Option Named → Outcome Speed
speed_in s None = value speed.Unknown
speed_in s (Some n) = bind (wanted_field s n (bytes_of "Current Link Speed")) (λ v. value (speed_of v))

-- `link_speed` of an adapter of a kind in a state
unfoldable pub link_speed : List Description → Site → AdapterType → State → List Register → Outcome Speed
link_speed ds s k st rs = cond (eqb (type_number k) (type_number type.Lane) && has_speed st) (speed_in s (of_kind ds k rs (bytes_of "LANE_ADP_CS_1"))) (value speed.Unknown)

-- `is_protocol`, by the kind
unfoldable pub is_protocol : AdapterType → Bool
is_protocol type.Unknown = false
is_protocol type.Inactive = false
is_protocol type.Lane = false
is_protocol type.HostInterface = true
is_protocol type.DisplayPortIn = true
is_protocol type.DisplayPortOut = true
is_protocol type.PcieDown = true
is_protocol type.PcieUp = true
is_protocol type.Usb3Down = true
is_protocol type.Usb3Up = true
is_protocol type.Usb3GenTDown = true
is_protocol type.Usb3GenTUp = true

-- `is_enabled`: a host interface always, another protocol adapter by its state
unfoldable pub is_enabled : AdapterType → State → Bool
is_enabled k st = eqb (type_number k) (type_number type.HostInterface) || (is_protocol k && eqb (state_number st) (state_number state.Enabled))
