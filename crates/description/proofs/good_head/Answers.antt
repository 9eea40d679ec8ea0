use borrow.Author.Tests.{lt-ltb, le-ltb, le-leb, lt-leb, eq-eqb, ne_eqb, not-true, not-false}
use mathlib.Core.Path.{sym, ap}
use Rattle.description.specs.Rules.{good_head}
use mathlib.Core.Bool.{not}
use Rattle.description.proofs.good_head.Goals as goal

pub returns-then-w-ge3 : goal.returns-then-w-ge3
unfolding good_head
returns-then-w-ge3 c = simp (le-ltb _ _ c.if-w-ge3.true)

pub returns-then-w-lt1 : goal.returns-then-w-lt1
unfolding good_head
returns-then-w-lt1 c = simp (lt-ltb _ _ c.if-w-ge3.false, lt-leb _ _ c.if-w-lt1.true)

pub returns-then-w-gt64 : goal.returns-then-w-gt64
unfolding good_head
returns-then-w-gt64 c = simp (lt-ltb _ _ c.if-w-ge3.false, le-leb _ _ c.if-w-lt1.false, lt-leb _ _ c.if-w-gt64.true)

pub returns-then-not-zero_unless : goal.returns-then-not-zero_unless
unfolding good_head
returns-then-not-zero_unless c = simp (lt-ltb _ _ c.if-w-ge3.false, le-leb _ _ c.if-w-lt1.false, le-leb _ _ c.if-w-gt64.false, sym c.zero_unless.ensures, not-true c.zero_unless.result (ap (λ b. not b) c.if-not-zero_unless.true))

pub returns-then-not-zero_unless-2 : goal.returns-then-not-zero_unless-2
unfolding good_head
returns-then-not-zero_unless-2 c = simp (lt-ltb _ _ c.if-w-ge3.false, le-leb _ _ c.if-w-lt1.false, le-leb _ _ c.if-w-gt64.false, sym c.zero_unless.ensures, not-false c.zero_unless.result (ap (λ b. not b) c.if-not-zero_unless.false), sym c.zero_unless-2.ensures, not-true c.zero_unless-2.result (ap (λ b. not b) c.if-not-zero_unless-2.true))

pub returns-then-list-ne0 : goal.returns-then-list-ne0
unfolding good_head
returns-then-list-ne0 c = simp (lt-ltb _ _ c.if-w-ge3.false, le-leb _ _ c.if-w-lt1.false, le-leb _ _ c.if-w-gt64.false, sym c.zero_unless.ensures, not-false c.zero_unless.result (ap (λ b. not b) c.if-not-zero_unless.false), sym c.zero_unless-2.ensures, not-false c.zero_unless-2.result (ap (λ b. not b) c.if-not-zero_unless-2.false), ne_eqb _ _ c.if-list-ne0.true)

pub returns : goal.returns
unfolding good_head
returns c = simp (lt-ltb _ _ c.if-w-ge3.false, le-leb _ _ c.if-w-lt1.false, le-leb _ _ c.if-w-gt64.false, sym c.zero_unless.ensures, not-false c.zero_unless.result (ap (λ b. not b) c.if-not-zero_unless.false), sym c.zero_unless-2.ensures, not-false c.zero_unless-2.result (ap (λ b. not b) c.if-not-zero_unless-2.false), eq-eqb _ _ c.if-list-ne0.false, sym c.zero_unless-3.ensures)
