-- Document 01, module 5: an adapter's kind, lanes, capabilities and hop range, and what it is loaded to. Assumes nothing.
use Rattle.std.specs.Prelude.{is_some, ℕ, suc, Bool, cond, not, ◌&&◌, ◌||◌, List, [], ◌∷◌, ltb, leb, eqb, length, Option, None, Some, Err, Ok, Result}
use Rattle.refusal.specs.Outcome.{Outcome, value, bind}
use Rattle.refusal.specs.Refusal.{refusal_of, field_at}
use Rattle.refusal.specs.declared.Site.{Site}
use Rattle.refusal.specs.declared.Fault.TheVariants.{FewRegisters}
use Rattle.util.specs.Bits.{bits_of}
use Rattle.util.specs.Text.{bytes_of}
use Rattle.usb4.specs.Codes.{type_of}
use Rattle.usb4.specs.Numbers.{type_number}
use Rattle.usb4.specs.declared.AdapterType.{AdapterType}
use Rattle.usb4.specs.declared.AdapterType.TheVariants as type
use Rattle.usb4.specs.declared.State.{State}
use Rattle.usb4.specs.declared.Speed.{Speed}
use Rattle.register.specs.declared.Register.{Register}
use Rattle.layout.specs.Description.{Description}
use Rattle.survey.specs.Devices.{Adapter}
use Rattle.named.specs.Named.{Named, wanted_field}
use Rattle.state.specs.State.{of_kind, state_of, link_speed}
use Rattle.adapter.specs.declared.Part.{Part}
use Rattle.adapter.specs.declared.Facts.{Facts}
use Rattle.refusal.specs.declared.Fault.{Fault}

-- the third of the sorted records, not the one at offset 2
unfoldable pub third_value : List Register → ℕ
third_value [] = 0
third_value (a ∷ []) = 0
third_value (a ∷ b ∷ []) = 0
third_value (a ∷ b ∷ c ∷ rs) = c.value

-- `parse_kind`: bits 0 to 23 of the third record; Inactive if unread
unfoldable pub kind_of : Adapter → AdapterType
kind_of a = cond a.read (type_of (bits_of (third_value a.registers) 0 23)) type.Inactive

-- the registers of an adapter that were read
unfoldable pub registers_of : Adapter → List Register
registers_of a = cond a.read a.registers []

-- the indices from i on of the records with a cap id
unfoldable pub indices_from : ℕ → ℕ → List Register → List ℕ
indices_from cap i [] = []
indices_from cap i (r ∷ rs) = cond (eqb r.cap_id cap) (i ∷ indices_from cap (suc i) rs) (indices_from cap (suc i) rs)

unfoldable pub last_of : ℕ → List ℕ → ℕ
last_of d [] = d
last_of d (x ∷ xs) = last_of x xs

-- from the first match up to the last
unfoldable pub between : List ℕ → Option Part
between [] = None
between (i ∷ []) = None
between (i ∷ j ∷ is) = Some (record { start = i; end = last_of j is })

-- `find_cap`: needs two matches after index 0
unfoldable pub find_cap : ℕ → List Register → Option Part
find_cap cap [] = None
find_cap cap (r ∷ rs) = between (indices_from cap 1 rs)

unfoldable pub is_lane : AdapterType → Bool
is_lane k = eqb (type_number k) (type_number type.Lane)

-- the capability of USB4 ports
abbrev pub cap_usb4 : ℕ
cap_usb4 = 6

-- `is_lane0`: on a USB4 router by the capability, else, or without it, adapters 1 and 3
unfoldable pub is_lane0 : Bool → AdapterType → ℕ → List Register → Bool
is_lane0 usb4 k number rs = is_lane k && ((usb4 && is_some (find_cap cap_usb4 rs)) || eqb number 1 || eqb number 3)

unfoldable pub lane0_of : Bool → Adapter → Bool
lane0_of usb4 a = is_lane0 usb4 (kind_of a) a.number (registers_of a)

unfoldable pub lane1_of : Bool → Adapter → Bool
lane1_of usb4 a = is_lane (kind_of a) && not (lane0_of usb4 a)

-- `min_hop`, by the kind
unfoldable pub min_hop : AdapterType → Option ℕ
min_hop type.Unknown = None
min_hop type.Inactive = None
min_hop type.Lane = Some 8
min_hop type.HostInterface = Some 1
min_hop type.DisplayPortIn = Some 8
min_hop type.DisplayPortOut = Some 8
min_hop type.PcieDown = Some 8
min_hop type.PcieUp = Some 8
min_hop type.Usb3Down = Some 8
min_hop type.Usb3Up = Some 8
min_hop type.Usb3GenTDown = Some 8
min_hop type.Usb3GenTUp = Some 8

-- at most 65,535, else none
unfoldable pub narrow : ℕ → Option ℕ
narrow v = cond (leb v 65535) (Some v) None

unfoldable pub max_hop_in : Site → Option Named → Outcome (Option ℕ)
max_hop_in s None = value None
max_hop_in s (Some n) = bind (wanted_field s n (bytes_of "Max Input HopID")) (λ v. value (narrow v))

-- `max_hop`: none without ADP_CS_5, 6 where it lacks the field
unfoldable pub max_hop : List Description → Site → AdapterType → List Register → Outcome (Option ℕ)
max_hop ds s k rs = max_hop_in s (of_kind ds k rs (bytes_of "ADP_CS_5"))

-- `parse_state`; an unread adapter is Inactive, and so Unknown
unfoldable pub parse_state : List Description → Site → Adapter → Outcome State
parse_state ds s a = state_of ds s (kind_of a) (registers_of a)

-- an adapter as it is loaded, with its device's place; speed and largest HopID with the 6 that comes only when they are asked for
pub record AdapterRow : Type 0 where
  pub device : ℕ
  pub number : ℕ
  pub kind : AdapterType
  pub state : State
  pub lane0 : Bool
  pub lane1 : Bool
  pub speed : Outcome Speed
  pub max_hop : Outcome (Option ℕ)

-- one of a device's adapters, by number
unfoldable pub adapter_site : ℕ → ℕ → Site
adapter_site p n = record { place = p; adapter = n }

-- 5: registers read, but fewer than three
unfoldable pub few_registers : Adapter → Bool
few_registers a = a.read && ltb (length a.registers) 3

unfoldable pub row_of : List Description → ℕ → Bool → Adapter → State → AdapterRow
row_of ds p usb4 a st = record {
  device = p;
  number = a.number;
  kind = kind_of a;
  state = st;
  lane0 = lane0_of usb4 a;
  lane1 = lane1_of usb4 a;
  speed = link_speed ds (adapter_site p a.number) (kind_of a) st (registers_of a);
  max_hop = max_hop ds (adapter_site p a.number) (kind_of a) (registers_of a);
}

-- 5, then state (6 or 8 as met)
unfoldable pub decode_of : List Description → ℕ → Bool → Adapter → Outcome AdapterRow
decode_of ds p usb4 a =
    cond (few_registers a) (refusal_of (FewRegisters (adapter_site p a.number)))
    (bind (parse_state ds (adapter_site p a.number) a) (λ st. value (row_of ds p usb4 a st)))

unfoldable pub facts_row : ℕ → Facts → AdapterRow
facts_row p f = record {
  device = p;
  number = f.number;
  kind = f.kind;
  state = f.state;
  lane0 = f.lane0;
  lane1 = f.lane1;
  speed = field_at (adapter_site p f.number) f.speed;
  max_hop = field_at (adapter_site p f.number) f.max_hop;
}

unfoldable pub decoded_outcome : ℕ → Result Facts Fault → Outcome AdapterRow
decoded_outcome p (Ok f) = value (facts_row p f)
decoded_outcome p (Err f) = refusal_of f
