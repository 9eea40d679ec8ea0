use mathlib.Core.Path.{sym}
use lib.ListN.{get_or-eq_default}
use Rattle.layout.proofs.word_at.Goals as goal

pub returns-else-i-t : goal.returns-else-i-t
returns-else-i-t c = sym (get_or-eq_default c.args.t.now _ c.if-i-t.false)
