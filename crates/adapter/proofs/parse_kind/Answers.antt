use Rattle.adapter.proofs.Laws as laws
use native.Mathlib.Omega.{arith}
use Rattle.adapter.proofs.parse_kind.Goals as goal

pub returns-then-word_at-eq0 : goal.returns-then-word_at-eq0
returns-then-word_at-eq0 c = laws.kind_unread _ (laws.not_read _ _ _ c.word_at.ensures c.if-word_at-eq0.true)

pub overflow_add-at : goal.overflow_add-at
overflow_add-at c = omega (arith, laws.head_there c.args.survey.now c.args.at _ c.word_at.ensures c.if-word_at-eq0.false)

pub returns-in_default : goal.returns-in_default
returns-in_default c = laws.head_few _ _ _ c.word_at.ensures c.if-word_at-eq0.false _ c.third_value.ensures c.in_default.is

pub returns : goal.returns
returns c = laws.head_kind _ _ _ c.word_at.ensures c.if-word_at-eq0.false _ c.third_value.ensures _ c.in-Some.is _ c.bits.ensures _ c.adapter_type.ensures
