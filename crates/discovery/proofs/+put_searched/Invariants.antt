use mathlib.Core.Bool.{cond}
use Rattle.discovery.proofs.+put_searched.Given as goal

abbrev pub decreases-put_searched : goal.decreases-put_searched
decreases-put_searched l = cond l.far 0 1
