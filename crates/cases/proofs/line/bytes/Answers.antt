use Rattle.std.proofs.Common.{◌≡◌, ◌∙◌, ap}
use Rattle.std.specs.Prelude.{false}
use Rattle.cases.specs.Cases.{put, no_input}
use Rattle.cases.proofs.Laws.{input_none, input_some, some_long, some_byte}
use Rattle.cases.proofs.line.bytes.Goals as goal
use Rattle.cases.proofs.line.bytes.Goals.{else-input-eq1-via-then-input-eq1+else-input-eq45, else-input-eq1-via-else-input-eq1}

pub returns-then-input-eq45-clause-bytes : goal.returns-then-input-eq45-clause-bytes
returns-then-input-eq45-clause-bytes c = (input_none _ c.args.out.now _ c.if-input-eq1.true c.if-input-eq45.true).0

pub returns-then-input-eq45-clause-number : goal.returns-then-input-eq45-clause-number
returns-then-input-eq45-clause-number c = (input_none _ c.args.out.now _ c.if-input-eq1.true c.if-input-eq45.true).1

pub returns-clause-bytes : goal.returns-clause-bytes
returns-clause-bytes c =
    let e : no_input c.args.input.now ≡ false = elim c.else-input-eq1.branch [ else-input-eq1-via-then-input-eq1+else-input-eq45 w ↦ some_byte _ w.if-input-eq45.false | else-input-eq1-via-else-input-eq1 w ↦ some_long _ w.if-input-eq1.false ] in
    c.pairs.ensures.bytes ∙ ap (λ l. put l c.args.out.now) (input_some _ _ e).0

pub returns-clause-number : goal.returns-clause-number
returns-clause-number c =
    let e : no_input c.args.input.now ≡ false = elim c.else-input-eq1.branch [ else-input-eq1-via-then-input-eq1+else-input-eq45 w ↦ some_byte _ w.if-input-eq45.false | else-input-eq1-via-else-input-eq1 w ↦ some_long _ w.if-input-eq1.false ] in
    c.pairs.ensures.number ∙ (input_some _ _ e).1
