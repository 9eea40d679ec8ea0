use Rattle.metadata.proofs.Calls as calls
use Rattle.metadata.proofs.field.Goals as goal

pub returns-in_err-check : goal.returns-in_err-check
returns-in_err-check c = calls.field_err _ _ c.check.ensures _ _ _ _ _ c.in_err-check.was c.from_residual.ensures.1

pub returns : goal.returns
returns c = calls.field_well _ _ c.check.ensures _ _ _ c.in_ok-check.was _ c.field_at.ensures
