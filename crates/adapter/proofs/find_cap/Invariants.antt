use Rattle.adapter.proofs.Laws as laws
use Rattle.listing.specs.After.{after}
use lib.ListN.{length}
use Prim.Native.Nat.{◌-◌}
use Rattle.adapter.proofs.find_cap.Given as goal

abbrev pub invariant-loop-i : goal.invariant-loop-i
invariant-loop-i l = laws.Seeking l.survey l.cap (after l.survey l.from).registers l.i l.index l.start l.end

abbrev pub decreases-loop-i : goal.decreases-loop-i
decreases-loop-i l = length l.survey - l.i
