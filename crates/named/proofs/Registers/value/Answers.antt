use native.Mathlib.Omega.{arith}
use Rattle.named.proofs.Laws.{value_is}
use Rattle.named.proofs.Registers.value.Goals as goal

pub returns : goal.returns
returns c = value_is _ _ _ (omega (arith, c.well_formed)) c.saturating_add.ensures _ c.word_at.ensures
