use native.Mathlib.Omega.{arith}
use mathlib.Core.Path.{sym, ◌∙◌, ap}
use borrow.Author.Tests.{not-false}
use native.Mathlib.Nat.{lt_of_le_of_lt}
use lib.Dec.{lit<}
use Rattle.util.proofs.Laws.{decimal_le}
use Rattle.columns.specs.Work.{FrontsAt}
use Rattle.columns.proofs.InColumns.{front_at}
use mathlib.Core.Bool.{not}
use Rattle.columns.proofs.read_front.Goals as goal

pub returns-then-not-prefixed : goal.returns-then-not-prefixed
unfolding FrontsAt
returns-then-not-prefixed c = tt

pub returns-then-s-i-ne32 : goal.returns-then-s-i-ne32
unfolding FrontsAt
returns-then-s-i-ne32 c = tt

pub returns-then-not-next_prefixed : goal.returns-then-not-next_prefixed
unfolding FrontsAt
returns-then-not-next_prefixed c = tt

pub returns-then-ids-gt-MAX_32 : goal.returns-then-ids-gt-MAX_32
unfolding FrontsAt
returns-then-ids-gt-MAX_32 c = tt

pub returns-in_default : goal.returns-in_default
unfolding FrontsAt
returns-in_default c = tt

pub overflow_cast-result-2 : goal.overflow_cast-result-2
overflow_cast-result-2 c = record { fits = lt_of_le_of_lt (decimal_le 0xffff _ _ (sym c.parse_decimal.ensures ∙ c.in-Some.is)) (lit< tt) }

pub returns : goal.returns
unfolding FrontsAt
returns c = let x = c.next_prefixed.ensures (not-false _ (ap (λ b. not b) c.if-not-next_prefixed.false)) in
    front_at c.args.s.now c.args.i c.args.k _ _ _ c.requires.0 c.requires.2 (c.prefixed.ensures (not-false _ (ap (λ b. not b) c.if-not-prefixed.false))) c.if-s-i-ne32.false x.0 x.1 (c.parted_digits-ids.ensures (omega (arith, c.if-ids-gt-MAX_32.false))) c.if-ids-gt-MAX_32.false c.padded-start.ensures.0 c.padded-start.ensures.1 (sym c.parse_decimal.ensures ∙ c.in-Some.is)
