use native.Mathlib.Omega.{arith}
use Rattle.printed.proofs.Laws.{after_plain, after_last, after_hop}
use Rattle.printed.proofs.next_head.Goals as goal

pub returns-then-words-i-ne10 : goal.returns-then-words-i-ne10
returns-then-words-i-ne10 c = record { parts = after_plain c.args.words.now c.args.i c.requires c.if-words-i-ne10.true; onward = omega arith }

pub returns-then-words-i-lt2 : goal.returns-then-words-i-lt2
returns-then-words-i-lt2 c = record { parts = after_last c.args.words.now c.args.i c.requires (omega arith); onward = omega arith }

pub returns : goal.returns
returns c = record { parts = after_hop c.args.words.now c.args.i c.requires c.if-words-i-ne10.false (omega arith); onward = omega arith }
