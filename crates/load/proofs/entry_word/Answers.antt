use native.Mathlib.Omega.{arith}
use mathlib.Core.Path.{refl}
use Rattle.load.proofs.Packing.{entry_word_lem}
use Rattle.load.proofs.entry_word.Goals as goal

pub returns : goal.returns
returns c = entry_word_lem _ c.args.place c.args.adapter c.args.in_hop c.args.out_adapter c.args.out_hop refl (omega (arith, c.ranges)) c.requires.1 (omega (arith, c.ranges)) (omega (arith, c.ranges))
