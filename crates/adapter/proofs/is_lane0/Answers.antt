use borrow.Author.Tests.{not-true, not-false}
use Rattle.adapter.proofs.Laws as laws
use mathlib.Core.Bool.{not}
use mathlib.Core.Path.{ap, ◌∙◌}
use Rattle.adapter.proofs.is_lane0.Goals as goal

pub returns-then-ne : goal.returns-then-ne
returns-then-ne c = laws.lane0_other _ _ _ _ (laws.no_lane _ _ c.ne.ensures c.if-ne.true)

pub returns-then-number-eq1 : goal.returns-then-number-eq1
returns-then-number-eq1 c = laws.lane0_one _ _ _ _ (laws.a_lane _ _ c.ne.ensures c.if-ne.false) c.if-number-eq1.true

pub returns-then-number-eq3 : goal.returns-then-number-eq3
returns-then-number-eq3 c = laws.lane0_three _ _ _ _ (laws.a_lane _ _ c.ne.ensures c.if-ne.false) c.if-number-eq3.true

pub returns-then-not-usb4 : goal.returns-then-not-usb4
returns-then-not-usb4 c = laws.lane0_old _ _ _ _ (laws.a_lane _ _ c.ne.ensures c.if-ne.false) c.if-number-eq1.false c.if-number-eq3.false (not-true c.args.usb4 (ap (λ b. not b) c.if-not-usb4.true))

pub returns : goal.returns
returns c = c.is_some.ensures ∙ laws.lane0_new _ _ _ _ (laws.a_lane _ _ c.ne.ensures c.if-ne.false) c.if-number-eq1.false c.if-number-eq3.false (not-false c.args.usb4 (ap (λ b. not b) c.if-not-usb4.false)) _ c.find_cap.ensures
