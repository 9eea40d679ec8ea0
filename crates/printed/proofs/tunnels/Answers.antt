use Rattle.printed.proofs.Laws.{none_counted, count_tunnel, count_other, counted_all}
use native.Mathlib.Omega.{arith}
use Rattle.printed.proofs.tunnels.Goals as goal
use Rattle.printed.proofs.tunnels.Goals.{then-words-i-eq8, else-words-i-eq8}

pub loop-i-init : goal.loop-i-init
loop-i-init c = none_counted _

pub loop-i-smaller : goal.loop-i-smaller
loop-i-smaller c = omega (arith, c.next_head-i.ensures.onward)

pub loop-i-preserved : goal.loop-i-preserved
loop-i-preserved c = let e = c.next_head-i.ensures in
    elim c.if-words-i-eq8.branch [
      | then-words-i-eq8 w ↦ count_tunnel c.loop-i.invariant e.onward e.parts w.n-is w.if-words-i-eq8.true
      | else-words-i-eq8 w ↦ count_other c.loop-i.invariant e.onward e.parts w.n-is w.if-words-i-eq8.false
    ]

pub returns : goal.returns
returns c = counted_all c.loop-i.invariant (omega arith)
