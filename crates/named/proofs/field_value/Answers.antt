use Rattle.named.proofs.Laws as laws
use Rattle.named.proofs.field_value.Goals as goal

pub returns-in_default : goal.returns-in_default
returns-in_default c = laws.field_missing _ _ _ _ _ c.find_field.ensures c.in_default.is

pub returns : goal.returns
returns c = laws.field_is_lem _ _ _ _ _ c.find_field.ensures _ _ c.in-Some.is c.bits.ensures
