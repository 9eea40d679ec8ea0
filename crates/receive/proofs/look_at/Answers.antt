use Rattle.std.specs.Prelude.{Ok}
use Rattle.std.proofs.lemmas.Result.{err_from_is_err_and}
use mathlib.Core.Path.{◌∙◌, ap}
use native.Mathlib.Omega.{arith}
use Rattle.receive.specs.Receive.{at}
use Rattle.receive.proofs.Looking.{looked_large, looked_over, looked_past, looked_absent, looked_refused, looked_other, looked_fits}
use Rattle.receive.proofs.look_at.Goals as goal

-- `receive::look_at` meets its contract.
pub returns-then-hop-gt65535 : goal.returns-then-hop-gt65535
returns-then-hop-gt65535 c = looked_large _ _ _ _ _ _ c.if-hop-gt65535.true

pub returns-in_default : goal.returns-in_default
returns-in_default c = looked_over _ _ _ _ _ _ c.next_hop.ensures c.in_default.is

pub returns-then-most-at : goal.returns-then-most-at
returns-then-most-at c = looked_past _ _ _ _ _ _ c.next_hop.ensures c.in-Some.is c.if-most-at.true

pub returns-then-w-ring : goal.returns-then-w-ring
returns-then-w-ring c = looked_other _ _ _ _ _ _ c.next_hop.ensures c.in-Some.is c.if-most-at.false c.onward.ensures _ _ _ _ (c.in_ok-walked.was ∙ ap Ok c.in-Some-walked.is) c.if-w-ring.true (omega arith)

pub returns-in_err-walked : goal.returns-in_err-walked
returns-in_err-walked c =
    let p = err_from_is_err_and c.from_residual.result c.from_residual.ensures.1 in
    rw (p.1, p.2) (looked_refused _ _ _ _ _ _ c.next_hop.ensures c.in-Some.is c.if-most-at.false c.onward.ensures _ c.in_err-walked.was)

pub returns-in_default-walked : goal.returns-in_default-walked
returns-in_default-walked c = looked_absent _ _ _ _ _ _ c.next_hop.ensures c.in-Some.is c.if-most-at.false c.onward.ensures (c.in_ok-walked.was ∙ ap Ok c.in_default-walked.is)

pub returns : goal.returns
unfolding at
returns c = looked_fits _ _ _ _ _ _ c.next_hop.ensures c.in-Some.is c.if-most-at.false c.onward.ensures _ _ _ _ (c.in_ok-walked.was ∙ ap Ok c.in-Some-walked.is) c.if-w-ring.false
