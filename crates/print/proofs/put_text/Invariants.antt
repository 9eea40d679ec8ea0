use lib.ListN.{take}
use Rattle.print.specs.Print.{Puts}
use Rattle.print.proofs.put_text.Given as goal

abbrev pub invariant-loop-b : goal.invariant-loop-b
invariant-loop-b l = Puts l.initial.out l.at (take l.b-index l.text) l.next l.out
