use Rattle.adapter.proofs.Laws as laws
use mathlib.Core.Bool.{◌&&◌, not}
use mathlib.Core.Path.{sym, ap, ◌∙◌}
use Rattle.adapter.proofs.is_lane1.Goals as goal

pub returns-then-eq : goal.returns-then-eq
returns-then-eq c = sym (ap (λ b. b && not c.args.lane0) (sym (laws.this_lane _ _ c.eq.ensures) ∙ c.if-eq.true))

pub returns-else-eq : goal.returns-else-eq
returns-else-eq c = c.if-eq.false ∙ sym (ap (λ b. b && not c.args.lane0) (sym (laws.this_lane _ _ c.eq.ensures) ∙ c.if-eq.false))
