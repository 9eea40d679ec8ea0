use mathlib.Core.Path.{ap, ◌∙◌}
use Rattle.std.specs.Prelude.{Ok}
use Rattle.std.proofs.lemmas.Result.{err_from_is_err_and}
use native.Mathlib.Omega.{arith}
use Rattle.walk.proofs.Turns.{kept_start, kept_ring, kept_last, kept_dropped, kept_refused, kept_stops, kept_on}
use Rattle.walk.proofs.onward.Goals as goal

pub loop-left-init : goal.loop-left-init
loop-left-init c = (kept_start _, omega arith)

pub returns-then-left-lt1 : goal.returns-then-left-lt1
returns-then-left-lt1 c = kept_ring _ c.loop-left.invariant.0 (omega (arith, c.loop-left.invariant.1, c.if-left-lt1.true))

pub overflow_add-hops : goal.overflow_add-hops
overflow_add-hops c = omega (arith, c.loop-left.invariant.1, c.if-left-lt1.false)

pub returns-in_default : goal.returns-in_default
returns-in_default c = kept_stops _ c.loop-left.invariant.0 (omega (arith, c.loop-left.invariant.1, c.if-left-lt1.false)) c.leads.ensures (c.in_ok-next.was ∙ ap Ok c.in-On.is) c.find_entry.ensures c.in_default.is

pub loop-left-smaller : goal.loop-left-smaller
loop-left-smaller c = omega (arith, c.if-left-lt1.false)

pub loop-left-preserved : goal.loop-left-preserved
loop-left-preserved c = (kept_on _ c.loop-left.invariant.0 (omega (arith, c.loop-left.invariant.1, c.if-left-lt1.false)) c.leads.ensures (c.in_ok-next.was ∙ ap Ok c.in-On.is) c.find_entry.ensures c.in-Some.is, omega (arith, c.loop-left.invariant.1, c.if-left-lt1.false))

pub returns-in-Last : goal.returns-in-Last
returns-in-Last c = kept_last _ c.loop-left.invariant.0 (omega (arith, c.loop-left.invariant.1, c.if-left-lt1.false)) c.leads.ensures (c.in_ok-next.was ∙ ap Ok c.in-Last.is)

pub returns-in-Dropped : goal.returns-in-Dropped
returns-in-Dropped c = kept_dropped _ c.loop-left.invariant.0 (omega (arith, c.loop-left.invariant.1, c.if-left-lt1.false)) c.leads.ensures (c.in_ok-next.was ∙ ap Ok c.in-Dropped.is)

pub returns-in_err-next : goal.returns-in_err-next
returns-in_err-next c = let p = err_from_is_err_and c.from_residual.result c.from_residual.ensures.1 in
    rw (p.1, p.2) (kept_refused _ c.loop-left.invariant.0 (omega (arith, c.loop-left.invariant.1, c.if-left-lt1.false)) c.leads.ensures c.in_err-next.was)
