use Rattle.path.proofs.Writing.{Kept}
use Rattle.path.proofs.put_hops.Given as goal

abbrev pub invariant-loop-i : goal.invariant-loop-i
invariant-loop-i l = Kept l.tables l.fn.stand l.initial.output l.i l.s.place l.s.adapter l.s.hop_id l.output
