use borrow.Author.Rules.{rules}
use mathlib.Core.Path.{sym}
use native.Mathlib.Omega.{arith}
use Rattle.scan.specs.Scan.{is_high}
use Rattle.scan.proofs.Laws.{none_high}
use Rattle.scan.proofs.first_high.Goals as goal

pub returns-then-largest-lt128 : goal.returns-then-largest-lt128
returns-then-largest-lt128 c = sym (none_high _ (omega (arith, c.largest.ensures, c.if-largest-lt128.true)))

pub returns : goal.returns
unfolding is_high
returns c = c.place.ensures is_high (λ b r h k. search rules)
