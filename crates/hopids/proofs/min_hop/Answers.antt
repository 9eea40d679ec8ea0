use Rattle.std.proofs.Common.{inl, inr}
use Rattle.hopids.proofs.Laws as laws
use Rattle.hopids.proofs.min_hop.Goals as goal

pub returns-in-Unknown : goal.returns-in-Unknown
returns-in-Unknown c = laws.no_hops _ (inl c.in-Unknown.is)

pub returns-in-Inactive : goal.returns-in-Inactive
returns-in-Inactive c = laws.no_hops _ (inr c.in-Inactive.is)

pub returns-in-HostInterface : goal.returns-in-HostInterface
returns-in-HostInterface c = laws.host_hops _ c.in-HostInterface.is

pub returns-in_default : goal.returns-in_default
returns-in_default c = laws.other_hops _ c.in_default.not-Unknown c.in_default.not-Inactive c.in_default.not-HostInterface
