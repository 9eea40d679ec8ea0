use mathlib.Core.Path.{refl}
use Rattle.util.proofs.ByBits.{digit_by, no_digit_by}
use borrow.Author.Rules.{rules}
use Rattle.util.proofs.digit.Goals as goal

pub returns-then-digit_bits-k-eq1 : goal.returns-then-digit_bits-k-eq1
returns-then-digit_bits-k-eq1 c = digit_by _ (search rules) _ refl _ c.digit_bits.ensures c.if-digit_bits-k-eq1.true

pub returns : goal.returns
returns c = no_digit_by _ (search rules) _ refl _ c.digit_bits.ensures c.if-digit_bits-k-eq1.false
