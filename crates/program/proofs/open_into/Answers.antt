use mathlib.Core.Path.{sym}
use native.Mathlib.Omega.{arith}
use lib.Seq.{length-take-le}
use Rattle.program.proofs.Opening.{few_words, opens_read}
use borrow.Author.Rules.{rules}
use Rattle.program.proofs.open_into.Goals as goal

pub slice_bounds-survey-end : goal.slice_bounds-survey-end
slice_bounds-survey-end c = omega (arith, few_words _ _ (search rules) _ _ c.read-read.ensures, c.unwrap_or-n.ensures)

pub slice_bounds-load-end-2 : goal.slice_bounds-load-end-2
slice_bounds-load-end-2 c = sym (length-take-le _ _ (omega (arith, few_words _ _ (search rules) _ _ c.read-read.ensures, c.unwrap_or-n.ensures)))

pub returns : goal.returns
returns c = opens_read _ _ (search rules) _ _ c.read-read.ensures _ _ _ c.ours-ours.ensures c.unwrap_or-n.ensures c.load.ensures c.answer_of.ensures
