use native.Mathlib.Omega.{arith}
use Rattle.print.proofs.Laws.{nothing, then_byte, all_bytes}
use Rattle.print.proofs.put_text.Goals as goal

pub loop-b-init : goal.loop-b-init
loop-b-init c = nothing _ _ (omega arith)

pub loop-b-preserved : goal.loop-b-preserved
loop-b-preserved c = then_byte c.args.text.now c.loop-b.b-index (omega arith) (omega arith) c.loop-b.invariant c.put_byte-next.ensures

pub returns : goal.returns
returns c = all_bytes c.args.text.now c.loop-b.b-index (omega arith) c.loop-b.invariant
