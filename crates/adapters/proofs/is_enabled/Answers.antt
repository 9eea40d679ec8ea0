use mathlib.Core.Path.{◌∙◌}
use Rattle.usb4.proofs.Laws as usb4
use Rattle.adapters.proofs.Enabled as laws
use Rattle.adapters.proofs.is_enabled.Goals as goal

pub returns-in-HostInterface : goal.returns-in-HostInterface
returns-in-HostInterface c = laws.enabled_host _ _ c.in-HostInterface.is

pub returns-in-Unknown : goal.returns-in-Unknown
returns-in-Unknown c = laws.enabled_never _ _ c.in-Unknown.is

pub returns-in_default : goal.returns-in_default
returns-in_default c = let d = c.in_default in c.eq.ensures ∙ usb4.is_enabled _ ∙ laws.enabled_state _ _ d.not-HostInterface d.not-Unknown d.not-Inactive d.not-Lane
