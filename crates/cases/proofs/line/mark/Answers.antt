use Rattle.std.proofs.Common.{arith, ◌+◌, ◌%◌, length, refl}
use Rattle.cases.specs.Cases.{each}
use Rattle.cases.proofs.Laws.{each_turn, each_all}
use Rattle.cases.proofs.line.mark.Goals as goal

pub loop-i-init : goal.loop-i-init
unfolding each
loop-i-init c = refl

pub loop-i-preserved : goal.loop-i-preserved
loop-i-preserved c = each_turn (λ k. (c.args.first + k % 65536) % 4294967296) c.loop-i.words c.loop-i.i _ (omega (arith, c.loop-i-test.true, c.loop-i.auto.words)) c.loop-i.invariant refl

pub returns : goal.returns
returns c = each_all (λ k. (c.args.first + k % 65536) % 4294967296) c.loop-i.words c.loop-i.i (length c.args.words.now) (omega (arith, c.loop-i.auto.words)) (omega (arith, c.loop-i-test.false, c.loop-i.auto.i-end)) c.loop-i.invariant
