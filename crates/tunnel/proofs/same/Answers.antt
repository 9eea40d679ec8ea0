use borrow.Author.Tests.{eq-eqb, ne_eqb}
use Rattle.tunnel.proofs.same.Goals as goal

-- `tunnel::same` meets its contract.
pub returns-then-site-other : goal.returns-then-site-other
returns-then-site-other c = simp (eq-eqb _ _ c.if-site-other.true)

pub returns : goal.returns
returns c = simp (ne_eqb _ _ c.if-site-other.false)
