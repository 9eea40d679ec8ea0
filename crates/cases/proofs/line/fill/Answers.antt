use Rattle.std.proofs.Common.{arith, ◌%◌, length, get_or, refl}
use Rattle.cases.specs.Cases.{each}
use Rattle.cases.proofs.Laws.{each_turn, each_all}
use Rattle.cases.proofs.line.fill.Goals as goal

pub loop-i-init : goal.loop-i-init
unfolding each
loop-i-init c = refl

pub loop-i-preserved : goal.loop-i-preserved
loop-i-preserved c = each_turn (λ k. get_or c.args.words.now (k % length c.args.words.now) 0) c.loop-i.out c.loop-i.i c.again.result (omega (arith, c.loop-i-test.true, c.loop-i.auto.out)) c.loop-i.invariant c.again.ensures

pub returns : goal.returns
returns c = each_all (λ k. get_or c.args.words.now (k % length c.args.words.now) 0) c.loop-i.out c.loop-i.i (length c.args.out.now) (omega (arith, c.loop-i.auto.out)) (omega (arith, c.loop-i-test.false, c.loop-i.auto.i-end)) c.loop-i.invariant
