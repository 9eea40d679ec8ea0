use Rattle.adapter.proofs.Laws as laws
use Rattle.adapter.proofs.third_value.Goals as goal

pub returns-then-survey-first : goal.returns-then-survey-first
returns-then-survey-first c = laws.third_none _ _ _ c.next_register-first.ensures c.if-survey-first.true

pub returns-then-survey-second : goal.returns-then-survey-second
returns-then-survey-second c = laws.third_one _ _ _ c.next_register-first.ensures c.if-survey-first.false _ c.next_register-second.ensures c.if-survey-second.true

pub returns-then-survey-third : goal.returns-then-survey-third
returns-then-survey-third c = laws.third_two _ _ _ c.next_register-first.ensures c.if-survey-first.false _ c.next_register-second.ensures c.if-survey-second.false _ c.next_register-third.ensures c.if-survey-third.true

pub returns : goal.returns
returns c = laws.third_is _ _ _ c.next_register-first.ensures c.if-survey-first.false _ c.next_register-second.ensures c.if-survey-second.false _ c.next_register-third.ensures c.if-survey-third.false _ c.word_at.ensures
