use Rattle.std.proofs.Common.{arith, ◌∙◌, ap, ◌++◌, drop, length, get_or, ◌%◌, length-take-le}
use Rattle.cases.specs.Cases.{each}
use Rattle.cases.proofs.Laws.{list_none, list_long, list_fits}
use Rattle.cases.proofs.line.list.Goals as goal

pub returns-in_err-first-clause-words : goal.returns-in_err-first-clause-words
returns-in_err-first-clause-words c = (list_none c.args.words.now c.args.out.now _ c.in_err-first.ensures.cases).0

pub returns-in_err-first-clause-number : goal.returns-in_err-first-clause-number
returns-in_err-first-clause-number c = c.from_residual.ensures ∙ (list_none c.args.words.now c.args.out.now _ c.in_err-first.ensures.cases).1

pub returns-then-out-n-clause-words : goal.returns-then-out-n-clause-words
returns-then-out-n-clause-words c = (list_long _ c.args.out.now _ _ _ c.in_ok-first.ensures.cases.0 c.if-out-n.true).0

pub returns-then-out-n-clause-number : goal.returns-then-out-n-clause-number
returns-then-out-n-clause-number c = (list_long _ c.args.out.now _ _ _ c.in_ok-first.ensures.cases.0 c.if-out-n.true).1

pub returns-clause-words : goal.returns-clause-words
returns-clause-words c = ap (λ l. l ++ drop c.in_ok-first.first.now c.args.out.now) (c.fill.ensures ∙ ap (λ m. each (λ i. get_or c.in_ok-first.rest.now (i % length c.in_ok-first.rest.now) 0) m) (length-take-le c.in_ok-first.first.now c.args.out.now (omega (arith, c.if-out-n.false)))) ∙ (list_fits _ c.args.out.now _ _ c.in_ok-first.ensures.cases.0 (omega (arith, c.if-out-n.false))).0

pub returns-clause-number : goal.returns-clause-number
returns-clause-number c = (list_fits _ c.args.out.now _ _ c.in_ok-first.ensures.cases.0 (omega (arith, c.if-out-n.false))).1
