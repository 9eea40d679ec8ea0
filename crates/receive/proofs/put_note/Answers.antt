use mathlib.Core.Path.{refl}
use native.Mathlib.Omega.{arith}
use Rattle.receive.proofs.put_note.Goals as goal

-- `receive::put_note` meets its contract.
pub returns-then-notes-noted : goal.returns-then-notes-noted
returns-then-notes-noted c = record { put = λ l. absurd (omega (arith, l, c.if-notes-noted.true)); full = λ l. (refl, refl) }

pub returns : goal.returns
returns c = record { put = λ l. (refl, refl); full = λ l. absurd (omega (arith, l, c.if-notes-noted.false)) }
