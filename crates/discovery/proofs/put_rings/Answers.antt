use native.Mathlib.Omega.{arith}
use Rattle.discovery.proofs.Rings.{putting_start, putting_end, putting_full, putting_on}
use Rattle.discovery.proofs.put_rings.Goals as goal

pub loop-ring-init : goal.loop-ring-init
loop-ring-init c = putting_start _ _ _ _ _ c.requires.0

pub shape_of-output-then-output-at : goal.shape_of-output-then-output-at
shape_of-output-then-output-at c = c.loop-ring.invariant.long

pub returns-then-output-at : goal.returns-then-output-at
returns-then-output-at c = putting_full _ _ _ _ _ _ _ _ c.loop-ring.invariant c.if-output-at.true

pub put_ring-at-requires : goal.put_ring-at-requires
put_ring-at-requires c = (omega (arith, c.loop-ring-test.true, c.requires.1), c.loop-ring.invariant.within, c.requires.2, c.requires.3)

pub loop-ring-preserved : goal.loop-ring-preserved
loop-ring-preserved c = putting_on _ _ _ _ _ _ _ _ c.loop-ring.invariant c.loop-ring-test.true _ _ c.put_ring-at.ensures

pub shape_of-output : goal.shape_of-output
shape_of-output c = c.loop-ring.invariant.long

pub returns : goal.returns
returns c = putting_end _ _ _ _ _ _ _ _ c.loop-ring.invariant c.loop-ring-test.false
