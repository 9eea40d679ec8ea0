use Rattle.std.proofs.Common.{arith}
use Rattle.cases.proofs.Form.{low_turn, low_all}
use Rattle.cases.proofs.stored.put_pairs.Goals as goal

pub loop-i-preserved : goal.loop-i-preserved
loop-i-preserved c = low_turn c.args.hex.now c.loop-i.out c.loop-i.i c.byte.result c.byte.ensures (omega (arith, c.loop-i-test.true, c.requires)) (omega (arith, c.loop-i-test.true, c.loop-i.auto.out)) c.loop-i.invariant

pub returns : goal.returns
returns c = low_all c.args.hex.now c.loop-i.out c.loop-i.i (omega (arith, c.loop-i-test.false, c.requires)) (omega (arith, c.loop-i-test.false, c.loop-i.auto.out)) c.loop-i.invariant
