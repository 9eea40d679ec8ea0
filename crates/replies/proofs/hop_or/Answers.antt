use mathlib.Core.Path.{sym, ap}
use Rattle.replies.specs.Replies.{hop_or}
use Rattle.replies.proofs.hop_or.Goals as goal

pub returns-in-Some : goal.returns-in-Some
unfolding hop_or
returns-in-Some c = sym (ap (λ h. hop_or h) c.in-Some.is)

pub returns-in-None : goal.returns-in-None
unfolding hop_or
returns-in-None c = sym (ap (λ h. hop_or h) c.in-None.is)
