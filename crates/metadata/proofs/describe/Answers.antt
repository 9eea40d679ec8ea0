use Rattle.metadata.proofs.Calls as calls
use Rattle.metadata.proofs.describe.Goals as goal

pub returns-in_err-check : goal.returns-in_err-check
returns-in_err-check c = calls.describe_err _ _ c.check.ensures _ _ _ c.in_err-check.was c.from_residual.ensures.1

pub returns : goal.returns
returns c = calls.describe_well _ _ c.check.ensures _ c.in_ok-check.was _ c.find_group.ensures
