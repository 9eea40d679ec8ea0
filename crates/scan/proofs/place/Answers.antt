use mathlib.Core.Path.{◌∙◌, sym}
use native.Mathlib.Omega.{arith}
use lib.ListN.{get_or}
use Rattle.scan.proofs.Laws.{place_here, place_on, place_end}
use Rattle.scan.proofs.place.Goals as goal

pub returns-then-sought : goal.returns-then-sought
returns-then-sought g c = let w = c.loop-i in
    λ p t. sym (w.invariant p t ∙ place_here p _ w.i c.loop-i-test.true (sym (t (get_or c.args.s.now w.i 0) _ (omega (arith, c.type_inv.s w.i)) c.sought.ensures) ∙ c.if-sought.true))

pub loop-i-preserved : goal.loop-i-preserved
loop-i-preserved g c = let w = c.loop-i in
    λ p t. w.invariant p t ∙ place_on p _ w.i c.loop-i-test.true (sym (t (get_or c.args.s.now w.i 0) _ (omega (arith, c.type_inv.s w.i)) c.sought.ensures) ∙ c.if-sought.false)

pub returns : goal.returns
returns g c = let w = c.loop-i in
    λ p t. sym (w.invariant p t ∙ place_end p _ w.i c.loop-i-test.false)
