use mathlib.Core.Path.{sym}
use lib.Seq.{length-take-le, take_all}
use native.Mathlib.Omega.{arith}
use borrow.Author.Rules.{rules}
use Rattle.listing.proofs.first_words.Goals as goal

-- The words are cut where there are more.
pub returns-then-survey-n : goal.returns-then-survey-n
returns-then-survey-n c = sym (take_all c.args.n c.args.survey.now (omega arith))

pub slice_bounds-result-end : goal.slice_bounds-result-end
slice_bounds-result-end c = sym (length-take-le _ _ (search rules))
