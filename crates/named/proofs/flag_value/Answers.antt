use Rattle.named.proofs.Laws as laws
use Rattle.named.proofs.flag_value.Goals as goal

pub returns-in_default : goal.returns-in_default
returns-in_default c = laws.flag_missing _ _ _ _ _ c.find_flag.ensures c.in_default.is

pub returns : goal.returns
returns c = laws.flag_is _ _ _ _ _ c.find_flag.ensures _ _ c.in-Some.is c.bits.ensures
