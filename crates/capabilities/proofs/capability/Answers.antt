use Rattle.std.proofs.lemmas.Result.{err_from_is_err_and}
use Rattle.capabilities.proofs.Part as laws
use Rattle.capabilities.proofs.capability.Goals as goal

pub returns-in_err-accept : goal.returns-in_err-accept
returns-in_err-accept c = let p = err_from_is_err_and c.from_residual.result c.from_residual.ensures.1 in
    rw (p.1, p.2) (laws.cap_refused _ _ _ c.accept.ensures _ _ _ _ c.in_err-accept.was)

pub returns-in_default : goal.returns-in_default
returns-in_default c = laws.cap_nowhere _ _ _ c.accept.ensures _ _ _ _ c.in_ok-accept.was _ c.find_head.ensures c.in_default.is

pub returns : goal.returns
returns c = laws.cap_found _ _ _ c.accept.ensures _ _ _ _ c.in_ok-accept.was _ c.find_head.ensures _ c.in-Some.is _ c.capability.ensures
