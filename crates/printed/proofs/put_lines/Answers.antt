use native.Mathlib.Omega.{arith}
use Rattle.print.proofs.Laws.{same_long}
use Rattle.printed.proofs.Laws.{none_yet, one_more, all_put}
use Rattle.printed.proofs.put_lines.Goals as goal

pub loop-i-init : goal.loop-i-init
loop-i-init c = none_yet _ _

pub put_line-at-requires : goal.put_line-at-requires
put_line-at-requires c = tt

pub loop-i-smaller : goal.loop-i-smaller
loop-i-smaller c = omega (arith, c.next_head-i.ensures.onward)

pub loop-i-preserved : goal.loop-i-preserved
loop-i-preserved c = one_more c.loop-i.invariant (omega (arith, c.well_formed)) c.next_head-i.ensures.parts c.put_line-at.ensures

pub shape_of-out : goal.shape_of-out
shape_of-out c = same_long c.loop-i.invariant.put

pub returns : goal.returns
returns c = all_put c.loop-i.invariant (omega arith)
