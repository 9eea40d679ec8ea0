-- The number of each case, in the order of the Rust's enums. Assumes nothing.
use Rattle.std.specs.Prelude.{ℕ}
use Rattle.usb4.specs.declared.AdapterType.{AdapterType}
use Rattle.usb4.specs.declared.AdapterType.TheVariants as adapter_type
use Rattle.usb4.specs.declared.State.{State}
use Rattle.usb4.specs.declared.State.TheVariants as state
use Rattle.usb4.specs.declared.Speed.{Speed}
use Rattle.usb4.specs.declared.Speed.TheVariants as speed
use Rattle.usb4.specs.declared.Kind.{Kind}
use Rattle.usb4.specs.declared.Kind.TheVariants as kind
use Rattle.usb4.specs.declared.TunnelType.{TunnelType}
use Rattle.usb4.specs.declared.TunnelType.TheVariants as tunnel_type

abbrev pub type_number : AdapterType → ℕ
type_number adapter_type.Unknown = 0
type_number adapter_type.Inactive = 1
type_number adapter_type.Lane = 2
type_number adapter_type.HostInterface = 3
type_number adapter_type.DisplayPortIn = 4
type_number adapter_type.DisplayPortOut = 5
type_number adapter_type.PcieDown = 6
type_number adapter_type.PcieUp = 7
type_number adapter_type.Usb3Down = 8
type_number adapter_type.Usb3Up = 9
type_number adapter_type.Usb3GenTDown = 10
type_number adapter_type.Usb3GenTUp = 11

abbrev pub state_number : State → ℕ
state_number state.Unknown = 0
state_number state.Disabled = 1
state_number state.Enabled = 2
state_number state.Training = 3
state_number state.Cl0 = 4
state_number state.Cl0sTx = 5
state_number state.Cl0sRx = 6
state_number state.Cl1 = 7
state_number state.Cl2 = 8
state_number state.Cld = 9

abbrev pub speed_number : Speed → ℕ
speed_number speed.Unknown = 0
speed_number speed.Gen2 = 1
speed_number speed.Gen3 = 2
speed_number speed.Gen4 = 3

abbrev pub device_kind_number : Kind → ℕ
device_kind_number kind.Domain = 0
device_kind_number kind.Router = 1
device_kind_number kind.Xdomain = 2
device_kind_number kind.Retimer = 3
device_kind_number kind.Service = 4
device_kind_number kind.Unknown = 5

abbrev pub tunnel_number : TunnelType → ℕ
tunnel_number tunnel_type.Usb3 = 0
tunnel_number tunnel_type.DisplayPort = 1
tunnel_number tunnel_type.Pcie = 2
tunnel_number tunnel_type.Dma = 3
