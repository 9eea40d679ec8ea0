use Rattle.adapter.proofs.Laws as laws
use native.Mathlib.Omega.{arith}
use Rattle.adapter.proofs.registers_from.Goals as goal

pub returns-then-word_at-eq0 : goal.returns-then-word_at-eq0
returns-then-word_at-eq0 c = laws.from_end _ _ _ c.word_at.ensures c.if-word_at-eq0.true

pub overflow_add-result : goal.overflow_add-result
overflow_add-result c = omega (arith, laws.head_there c.args.survey.now c.args.at _ c.word_at.ensures c.if-word_at-eq0.false)

pub returns : goal.returns
returns c = laws.from_head _ _ _ c.word_at.ensures c.if-word_at-eq0.false
