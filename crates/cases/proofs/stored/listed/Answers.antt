use Rattle.std.proofs.Common.{arith, ◌≡◌, ◌∙◌, sym, ap, drop, ◌++◌}
use Rattle.std.proofs.Common.{length-take-le}
use Rattle.cases.specs.Stored.{says}
use Rattle.cases.proofs.Form.{no_length, no_room, list_said}
use Rattle.cases.proofs.stored.listed.Goals as goal

pub returns-in_err-n-clause-words : goal.returns-in_err-n-clause-words
returns-in_err-n-clause-words c = (no_length c.args.rest.now c.args.out.now _ (sym c.word.ensures ∙ c.in_err-n.was)).0

pub returns-in_err-n-clause-number : goal.returns-in_err-n-clause-number
returns-in_err-n-clause-number c = c.from_residual.ensures ∙ (no_length c.args.rest.now c.args.out.now _ (sym c.word.ensures ∙ c.in_err-n.was)).1

pub returns-then-out-n-clause-words : goal.returns-then-out-n-clause-words
returns-then-out-n-clause-words c = (no_room c.args.rest.now c.args.out.now _ _ (sym c.word.ensures ∙ c.in_ok-n.was) c.if-out-n.true).0

pub returns-then-out-n-clause-number : goal.returns-then-out-n-clause-number
returns-then-out-n-clause-number c = (no_room c.args.rest.now c.args.out.now _ _ (sym c.word.ensures ∙ c.in_ok-n.was) c.if-out-n.true).1

pub returns-clause-words : goal.returns-clause-words
returns-clause-words c =
    let b : c.behind.result.now ≡ drop 9 c.args.rest.now = c.behind.ensures in
    ap (λ l. l ++ drop c.in_ok-n.field-0 c.args.out.now) (c.repeat.ensures ∙ ap (λ m. says c.behind.result.now c.behind.result.now m) (length-take-le c.in_ok-n.field-0 c.args.out.now (omega (arith, c.if-out-n.false))) ∙ ap (λ s. says s s c.in_ok-n.field-0) b)
    ∙ (list_said c.args.rest.now c.args.out.now c.in_ok-n.field-0 (sym c.word.ensures ∙ c.in_ok-n.was) (omega (arith, c.if-out-n.false))).0

pub returns-clause-number : goal.returns-clause-number
returns-clause-number c = (list_said c.args.rest.now c.args.out.now c.in_ok-n.field-0 (sym c.word.ensures ∙ c.in_ok-n.was) (omega (arith, c.if-out-n.false))).1
