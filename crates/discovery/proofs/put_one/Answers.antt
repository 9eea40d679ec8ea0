use mathlib.Core.Path.{sym}
use native.Mathlib.Omega.{arith}
use lib.Seq.{length-take-le}
use Rattle.discovery.proofs.Answering.{one_absent, one_short, one_put}
use Rattle.discovery.proofs.put_one.Goals as goal

pub returns-then-output-words : goal.returns-then-output-words
returns-then-output-words c = one_short _ _ _ _ _ _ _ c.in-Some.is c.if-output-words.true

pub slice_bounds-put_plan-end-2 : goal.slice_bounds-put_plan-end-2
slice_bounds-put_plan-end-2 c = sym (length-take-le _ _ c.if-output-words.false)

pub put_plan-requires : goal.put_plan-requires
put_plan-requires c = omega arith

pub returns-in_default : goal.returns-in_default
returns-in_default c = one_absent _ _ _ c.in_default.is

pub returns : goal.returns
returns c = one_put c.args.tables.now c.args.plan c.args.output.now _ _ _ _ c.in-Some.is c.put_plan.new.output c.put_plan.result c.if-output-words.false c.put_plan.auto.output c.put_plan.ensures
