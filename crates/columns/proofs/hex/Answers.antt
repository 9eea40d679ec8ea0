use native.Mathlib.Omega.{arith}
use Rattle.columns.proofs.Packed.{letters_most, sums_most, guesses_most, guesses_lanes, rests_most, hex_is}
use Rattle.columns.proofs.hex.Goals as goal

-- `columns::hex` meets its contract.
pub overflow_mul-x : goal.overflow_mul-x
overflow_mul-x c = omega (arith, letters_most c.args.w)

pub overflow_add-x : goal.overflow_add-x
overflow_add-x c = omega (arith, sums_most c.args.w)

pub overflow_add-x-2 : goal.overflow_add-x-2
overflow_add-x-2 c = omega (arith, guesses_most c.args.w)

pub overflow_mul-l : goal.overflow_mul-l
overflow_mul-l c = omega (arith, letters_most c.args.w)

pub overflow_add-x-3 : goal.overflow_add-x-3
overflow_add-x-3 c = omega (arith, letters_most c.args.w, guesses_most c.args.w)

pub returns-then-x-l : goal.returns-then-x-l
returns-then-x-l c = λ h. absurd (omega arith)

pub overflow_add-z-2 : goal.overflow_add-z-2
overflow_add-z-2 c = omega (arith, letters_most c.args.w, rests_most c.args.w)

pub returns-then-z-l : goal.returns-then-z-l
returns-then-z-l c = λ h. absurd (omega arith)

pub joined-requires : goal.joined-requires
joined-requires c = guesses_lanes c.args.w

pub returns : goal.returns
returns c = λ h. hex_is c.args.w _ c.if-x-l.false c.if-z-l.false c.joined.ensures
