use mathlib.Core.Path.{refl, sym, ◌∙◌}
use Rattle.discovery.proofs.Quiet.{out_here, out_on, out_end}
use Rattle.discovery.proofs.leaves_by.Goals as goal

pub loop-entry-init : goal.loop-entry-init
loop-entry-init c = refl

pub returns-then-entry-wanted : goal.returns-then-entry-wanted
returns-then-entry-wanted c = let w = c.loop-entry in sym (w.invariant ∙ out_here _ w.entry-index _ c.loop-entry-test.true c.if-entry-wanted.true)

pub loop-entry-preserved : goal.loop-entry-preserved
loop-entry-preserved c = let w = c.loop-entry in w.invariant ∙ out_on _ w.entry-index _ c.loop-entry-test.true c.if-entry-wanted.false

pub returns : goal.returns
returns c = let w = c.loop-entry in sym (w.invariant ∙ out_end _ w.entry-index _ c.loop-entry-test.false)
