use Rattle.metadata.proofs.Calls as calls
use Rattle.metadata.proofs.field_at.Goals as goal

pub returns-then-not-stands_at : goal.returns-then-not-stands_at
returns-then-not-stands_at c = calls.field_absent _ _ _ c.stands_at.ensures _ _ c.if-not-stands_at.true

pub returns-in_default : goal.returns-in_default
returns-in_default c = calls.field_lacks _ _ _ c.stands_at.ensures _ _ c.if-not-stands_at.false _ c.find_field.ensures c.in_default.is

pub returns : goal.returns
returns c = calls.field_has _ _ _ c.stands_at.ensures _ _ c.if-not-stands_at.false _ c.find_field.ensures _ _ c.in-Some.is c.bits.ensures
