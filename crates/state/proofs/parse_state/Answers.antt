use Rattle.state.specs.State.{state_of}
use mathlib.Core.Path.{◌∙◌, refl}
use Rattle.state.proofs.Laws as laws
use Rattle.state.proofs.parse_state.Goals as goal

pub returns-in-Unknown : goal.returns-in-Unknown
returns-in-Unknown c = laws.no_state _ _ _ _ c.in-Unknown.is

pub returns-in-Lane : goal.returns-in-Lane
returns-in-Lane c = c.lane_state.ensures ∙ laws.a_lane_state _ _ _ _ c.in-Lane.is

pub returns-in-HostInterface : goal.returns-in-HostInterface
unfolding state_of
returns-in-HostInterface c = laws.state_is _ _ _ _ _ c.in-HostInterface.is _ refl

pub returns-in-DisplayPortIn : goal.returns-in-DisplayPortIn
returns-in-DisplayPortIn c = c.display_port_state.ensures ∙ laws.display_port_state _ _ _ _ c.in-DisplayPortIn.is

pub returns-in-PcieDown : goal.returns-in-PcieDown
returns-in-PcieDown c = c.pcie_state.ensures ∙ laws.pcie_state _ _ _ _ c.in-PcieDown.is

pub returns-in-Usb3Down : goal.returns-in-Usb3Down
returns-in-Usb3Down c = c.usb3_state.ensures ∙ laws.usb3_state _ _ _ _ c.in-Usb3Down.is

pub returns-in-Usb3GenTDown : goal.returns-in-Usb3GenTDown
returns-in-Usb3GenTDown c = c.gen_t_state.ensures ∙ laws.gen_t_state _ _ _ _ c.in-Usb3GenTDown.is
