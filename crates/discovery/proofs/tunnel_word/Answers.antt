use native.Mathlib.Omega.{arith}
use Rattle.discovery.proofs.Writing.{number_few, closed_word, open_word}
use Rattle.discovery.proofs.tunnel_word.Goals as goal

pub overflow_add-word-2 : goal.overflow_add-word-2
overflow_add-word-2 c = omega (arith, c.from.ensures, number_few c.args.kind)

pub overflow_add-result : goal.overflow_add-result
overflow_add-result c = omega (arith, c.from.ensures, number_few c.args.kind)

pub returns-then-closed : goal.returns-then-closed
returns-then-closed c = closed_word _ _ _ _ c.if-closed.true c.from.ensures

pub returns : goal.returns
returns c = open_word _ _ _ _ c.if-closed.false c.from.ensures
