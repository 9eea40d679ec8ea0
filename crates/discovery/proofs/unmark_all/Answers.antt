use mathlib.Core.Path.{refl}
use native.Mathlib.Omega.{arith}
use borrow.Author.Rules.{rules}
use Rattle.discovery.proofs.Quiet.{sparing_start, sparing_on, sparing_end}
use Rattle.discovery.proofs.unmark_all.Goals as goal

pub loop-entry-init : goal.loop-entry-init
loop-entry-init c = (sparing_start _ _ _ _, refl)

pub loop-entry-preserved : goal.loop-entry-preserved
loop-entry-preserved c = (sparing_on _ _ _ _ _ _ c.loop-entry.invariant.0 c.loop-entry-test.true _ refl (omega arith) c.unmark_used.ensures, search rules)

pub shape_of-idle : goal.shape_of-idle
shape_of-idle c = c.loop-entry.invariant.1

pub returns : goal.returns
returns c = sparing_end _ _ _ _ _ c.loop-entry.invariant.0 c.loop-entry-test.false
