use native.Mathlib.Omega.{arith}
use Rattle.columns.specs.Work.{QuickAt}
use Rattle.columns.proofs.InColumns.{columns_met}
use Rattle.columns.proofs.by_columns.Goals as goal

pub five_columns-requires : goal.five_columns-requires
five_columns-requires c = c.ends.ensures c.if-ends.true

pub returns-in_default : goal.returns-in_default
unfolding QuickAt
returns-in_default c = tt

pub overflow_add-result : goal.overflow_add-result
overflow_add-result c = omega (arith, (c.ends.ensures c.if-ends.true).within)

pub returns-then-ends : goal.returns-then-ends
unfolding QuickAt
returns-then-ends c = columns_met c.args.s.now c.args.at 32 _ _ c.in-Some.is c.five_columns.ensures

pub four_columns-requires : goal.four_columns-requires
four_columns-requires c = c.ends-2.ensures c.if-ends-2.true

pub returns-in_default-four_columns : goal.returns-in_default-four_columns
unfolding QuickAt
returns-in_default-four_columns c = tt

pub overflow_add-result-then-ends-2 : goal.overflow_add-result-then-ends-2
overflow_add-result-then-ends-2 c = omega (arith, (c.ends-2.ensures c.if-ends-2.true).within)

pub returns-then-ends-2 : goal.returns-then-ends-2
unfolding QuickAt
returns-then-ends-2 c = columns_met c.args.s.now c.args.at 27 _ _ c.in-Some-four_columns.is c.four_columns.ensures

pub returns : goal.returns
unfolding QuickAt
returns c = tt
