-- Document 01, module 2: the codes that registers hold, as tb_regs.h and the Rust's usb4.rs give them. Assumes nothing.
use Rattle.std.specs.Prelude.{ℕ, cond, eqb}
use Rattle.usb4.specs.declared.AdapterType.{AdapterType}
use Rattle.usb4.specs.declared.AdapterType.TheVariants as adapter_type
use Rattle.usb4.specs.declared.State.{State}
use Rattle.usb4.specs.declared.State.TheVariants as state
use Rattle.usb4.specs.declared.Speed.{Speed}
use Rattle.usb4.specs.declared.Speed.TheVariants as speed
use Rattle.usb4.specs.declared.Kind.{Kind}
use Rattle.usb4.specs.declared.Kind.TheVariants as kind

-- a route has eight bits for each router on the way
abbrev pub route_shift : ℕ
route_shift = 8

-- adapter types, by bits 0 to 23 of ADP_CS_2
unfoldable pub type_of : ℕ → AdapterType
type_of code =
    cond (eqb code 0) adapter_type.Inactive
    (cond (eqb code 1) adapter_type.Lane
    (cond (eqb code 2) adapter_type.HostInterface
    (cond (eqb code 0xe0101) adapter_type.DisplayPortIn
    (cond (eqb code 0xe0102) adapter_type.DisplayPortOut
    (cond (eqb code 0x100101) adapter_type.PcieDown
    (cond (eqb code 0x100102) adapter_type.PcieUp
    (cond (eqb code 0x200101) adapter_type.Usb3Down
    (cond (eqb code 0x200102) adapter_type.Usb3Up
    (cond (eqb code 0x210101) adapter_type.Usb3GenTDown
    (cond (eqb code 0x210102) adapter_type.Usb3GenTUp adapter_type.Unknown))))))))))

-- lane states, by bits 26 to 29 of LANE_ADP_CS_1
unfoldable pub lane_state_of : ℕ → State
lane_state_of code =
    cond (eqb code 0) state.Disabled
    (cond (eqb code 1) state.Training
    (cond (eqb code 2) state.Cl0
    (cond (eqb code 3) state.Cl0sTx
    (cond (eqb code 4) state.Cl0sRx
    (cond (eqb code 5) state.Cl1
    (cond (eqb code 6) state.Cl2
    (cond (eqb code 7) state.Cld state.Unknown)))))))

-- link speeds, by bits 16 to 19 of LANE_ADP_CS_1
unfoldable pub speed_of : ℕ → Speed
speed_of code =
    cond (eqb code 8) speed.Gen2
    (cond (eqb code 4) speed.Gen3
    (cond (eqb code 2) speed.Gen4 speed.Unknown))

-- device kinds, by their number in the order of `Kind`
unfoldable pub device_kind_of : ℕ → Kind
device_kind_of code =
    cond (eqb code 0) kind.Domain
    (cond (eqb code 1) kind.Router
    (cond (eqb code 2) kind.Xdomain
    (cond (eqb code 3) kind.Retimer
    (cond (eqb code 4) kind.Service kind.Unknown))))
