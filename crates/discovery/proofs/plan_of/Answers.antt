use Rattle.discovery.proofs.Answering.{plan_display_port, plan_pcie, plan_usb3, plan_other}
use Rattle.discovery.proofs.plan_of.Goals as goal

pub returns-in-DisplayPortIn : goal.returns-in-DisplayPortIn
returns-in-DisplayPortIn c = plan_display_port _ _ _ _ c.in-DisplayPortIn.is _ c.display_port.ensures

pub returns-in-PcieDown : goal.returns-in-PcieDown
returns-in-PcieDown c = plan_pcie _ _ _ _ c.in-PcieDown.is _ c.down_and_up.ensures

pub returns-in-Usb3Down : goal.returns-in-Usb3Down
returns-in-Usb3Down c = plan_usb3 _ _ _ _ c.in-Usb3Down.is _ c.down_and_up-in-Usb3Down.ensures

pub returns-in_default : goal.returns-in_default
returns-in_default c = plan_other _ _ _ _ c.in_default.not-DisplayPortIn c.in_default.not-PcieDown c.in_default.not-Usb3Down
