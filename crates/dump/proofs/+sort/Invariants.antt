use lib.ListN.{length}
use Rattle.dump.proofs.+sort.Given as goal

abbrev pub decreases-sort_groups : goal.decreases-sort_groups
decreases-sort_groups l = length l.a.now

abbrev pub decreases-sort_to : goal.decreases-sort_to
decreases-sort_to l = length l.a.now
