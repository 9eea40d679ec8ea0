use mathlib.Core.Path.{sym}
use borrow.Author.Tests.{lt-ltb, le-ltb}
use Rattle.util.specs.Work.{digit_bits}
use Rattle.util.proofs.digit_bits.Goals as goal

-- `util::digit_bits` meets its contract.
pub returns-then-b-lt64 : goal.returns-then-b-lt64
unfolding digit_bits
returns-then-b-lt64 c = sym (simp (lt-ltb _ _ c.if-b-lt64.true))

pub returns-then-b-lt128 : goal.returns-then-b-lt128
unfolding digit_bits
returns-then-b-lt128 c = sym (simp (le-ltb _ _ c.if-b-lt64.false, lt-ltb _ _ c.if-b-lt128.true))

pub returns : goal.returns
unfolding digit_bits
returns c = sym (simp (le-ltb _ _ c.if-b-lt64.false, le-ltb _ _ c.if-b-lt128.false))
