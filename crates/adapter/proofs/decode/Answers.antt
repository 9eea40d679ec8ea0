use Rattle.std.proofs.lemmas.Result.{err_from_is_err_and}
use Rattle.adapter.proofs.Laws as laws
use Rattle.adapter.proofs.decode.Goals as goal

pub returns-in_default : goal.returns-in_default
returns-in_default c = laws.decode_few _ _ _ _ _ (laws.number_is _ _ _ c.word_at.ensures) _ c.parse_kind.ensures c.in_default.is

pub returns-in_err-state : goal.returns-in_err-state
returns-in_err-state c = let p = err_from_is_err_and c.from_residual.result c.from_residual.ensures.1 in
    rw (p.1, p.2) (laws.decode_refused _ _ _ _ _ (laws.number_is _ _ _ c.word_at.ensures) _ c.parse_kind.ensures _ c.in-Some.is _ c.registers_from.ensures _ c.parse_state.ensures _ c.in_err-state.was)

pub returns : goal.returns
returns c = laws.decode_adapter _ _ _ _ _ (laws.number_is _ _ _ c.word_at.ensures) _ c.parse_kind.ensures _ c.in-Some.is _ c.registers_from.ensures _ c.parse_state.ensures _ c.in_ok-state.was _ (c.facts_of.ensures c.args.place)
