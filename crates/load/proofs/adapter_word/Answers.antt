use native.Mathlib.Omega.{arith}
use Rattle.load.proofs.Packing.{adapter_word_lem, flag_bit, type_bound, state_bound}
use Rattle.load.proofs.adapter_word.Goals as goal

pub overflow_add-result-3 : goal.overflow_add-result-3
overflow_add-result-3 c = omega (arith, type_bound c.args.f.kind)

pub overflow_add-result-4 : goal.overflow_add-result-4
overflow_add-result-4 c = omega (arith, type_bound c.args.f.kind, state_bound c.args.f.state)

pub overflow_add-result-5 : goal.overflow_add-result-5
overflow_add-result-5 c = omega (arith, type_bound c.args.f.kind, state_bound c.args.f.state)

pub overflow_add-result-6 : goal.overflow_add-result-6
overflow_add-result-6 c = omega (arith, type_bound c.args.f.kind, state_bound c.args.f.state, (flag_bit _ _ c.from-3.ensures).0)

pub overflow_add-result-7 : goal.overflow_add-result-7
overflow_add-result-7 c = omega (arith, type_bound c.args.f.kind, state_bound c.args.f.state, (flag_bit _ _ c.from-3.ensures).0, (flag_bit _ _ c.from-4.ensures).0)

pub returns : goal.returns
returns c = adapter_word_lem c.args.place c.hop_code.result c.from.result c.from-2.result c.speed_code.result c.from-3.result c.from-4.result c.args.f (omega (arith, c.struct_known-1)) c.hop_code.ensures c.from.ensures c.from-2.ensures c.speed_code.ensures c.from-3.ensures c.from-4.ensures
