-- Laws on adapter types, states and kinds. Assumes nothing.
use mathlib.Core.Path.{◌≡◌, refl, sym, ◌∙◌}
use mathlib.Core.Bool.{Bool, true, false, not}
use borrow.Author.Tests.{not-true, not-false}
use lib.Dec.{eqb}
use denote.Enum.Bare.{sameb}
use Rattle.usb4.specs.Numbers.{type_number, state_number, device_kind_number}
use Rattle.usb4.specs.Codes.{device_kind_of}
use Rattle.usb4.specs.contracts.AdapterType.{the_type}
use Rattle.usb4.specs.contracts.State as of_state
use Rattle.usb4.specs.contracts.Kind as of_kind
use Rattle.usb4.specs.declared.AdapterType.{AdapterType}
use Rattle.usb4.specs.declared.AdapterType.TheVariants as type
use Rattle.usb4.specs.declared.State.{State}
use Rattle.usb4.specs.declared.State.TheVariants as state
use Rattle.usb4.specs.declared.Kind.{Kind}
use Rattle.usb4.specs.declared.Kind.TheVariants as kind

-- `kind == AdapterType::Lane`, by the number
pub is_lane : (k : AdapterType) → sameb the_type k type.Lane ≡ eqb (type_number k) (type_number type.Lane)
is_lane type.Unknown = refl
is_lane type.Inactive = refl
is_lane type.Lane = refl
is_lane type.HostInterface = refl
is_lane type.DisplayPortIn = refl
is_lane type.DisplayPortOut = refl
is_lane type.PcieDown = refl
is_lane type.PcieUp = refl
is_lane type.Usb3Down = refl
is_lane type.Usb3Up = refl
is_lane type.Usb3GenTDown = refl
is_lane type.Usb3GenTUp = refl

-- `kind != AdapterType::Lane`
pub no_lane : (k : AdapterType) (d : Bool) → d ≡ not (sameb the_type k type.Lane) → d ≡ true → eqb (type_number k) (type_number type.Lane) ≡ false
no_lane k d e t = sym (is_lane k) ∙ not-true _ (sym e ∙ t)

pub a_lane : (k : AdapterType) (d : Bool) → d ≡ not (sameb the_type k type.Lane) → d ≡ false → eqb (type_number k) (type_number type.Lane) ≡ true
a_lane k d e f = sym (is_lane k) ∙ not-false _ (sym e ∙ f)

-- `state == State::Enabled`
pub is_enabled : (s : State) → sameb of_state.the_type s state.Enabled ≡ eqb (state_number s) (state_number state.Enabled)
is_enabled state.Unknown = refl
is_enabled state.Disabled = refl
is_enabled state.Enabled = refl
is_enabled state.Training = refl
is_enabled state.Cl0 = refl
is_enabled state.Cl0sTx = refl
is_enabled state.Cl0sRx = refl
is_enabled state.Cl1 = refl
is_enabled state.Cl2 = refl
is_enabled state.Cld = refl

-- `kind == Kind::Router`
pub is_router : (k : Kind) → sameb of_kind.the_type k kind.Router ≡ eqb (device_kind_number k) (device_kind_number kind.Router)
is_router kind.Domain = refl
is_router kind.Router = refl
is_router kind.Xdomain = refl
is_router kind.Retimer = refl
is_router kind.Service = refl
is_router kind.Unknown = refl

-- a device's kind is read back from its number
pub kind_back : (k : Kind) → device_kind_of (device_kind_number k) ≡ k
unfolding device_kind_of
kind_back kind.Domain = refl
kind_back kind.Router = refl
kind_back kind.Xdomain = refl
kind_back kind.Retimer = refl
kind_back kind.Service = refl
kind_back kind.Unknown = refl
