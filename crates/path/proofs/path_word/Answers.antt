use native.Mathlib.Omega.{arith}
use Rattle.path.proofs.path_word.Goals as goal

pub overflow_mul-result : goal.overflow_mul-result
overflow_mul-result c = omega (arith, c.from.ensures)

pub overflow_add-result : goal.overflow_add-result
overflow_add-result c = omega (arith, c.from.ensures)

pub overflow_add-result-2 : goal.overflow_add-result-2
overflow_add-result-2 c = omega (arith, c.from.ensures)

pub returns : goal.returns
returns c = λ l. omega (arith, c.from.ensures)
