use mathlib.Core.Path.{sym, ap, ◌∙◌}
use Rattle.answers.specs.Said.{hex_of_bits}
use borrow.Author.Tests.{ne_eqb}
use Rattle.answers.proofs.hex_of_bits.Goals as goal

pub returns-then-bits-eq16 : goal.returns-then-bits-eq16
unfolding hex_of_bits
returns-then-bits-eq16 c = c.parse_hex.ensures ∙ sym (ap (λ b. hex_of_bits b c.args.text.now) c.if-bits-eq16.true)

pub returns-then-bits-eq32 : goal.returns-then-bits-eq32
unfolding hex_of_bits
returns-then-bits-eq32 c = c.parse_hex-then-bits-eq32.ensures ∙ sym (ap (λ b. hex_of_bits b c.args.text.now) c.if-bits-eq32.true)

pub returns-then-bits-eq64 : goal.returns-then-bits-eq64
unfolding hex_of_bits
returns-then-bits-eq64 c = c.parse_hex-then-bits-eq64.ensures ∙ sym (ap (λ b. hex_of_bits b c.args.text.now) c.if-bits-eq64.true)

pub returns : goal.returns
unfolding hex_of_bits
returns c = sym (simp (ne_eqb _ _ c.if-bits-eq16.false, ne_eqb _ _ c.if-bits-eq32.false, ne_eqb _ _ c.if-bits-eq64.false))
