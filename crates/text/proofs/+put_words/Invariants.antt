use mathlib.Core.Bool.{cond}
use Rattle.text.proofs.+put_words.Given as goal

abbrev pub decreases-put_words : goal.decreases-put_words
decreases-put_words l = cond l.long 0 1
