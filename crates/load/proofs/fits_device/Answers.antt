use Rattle.numbering.proofs.Laws.{none_left, none_here, some_here}
use Rattle.load.proofs.Fitting as laws
use mathlib.Core.Path.{◌∙◌}
use Rattle.load.proofs.fits_device.Goals as goal

pub returns-then-survey-i : goal.returns-then-survey-i
returns-then-survey-i c = laws.fits_empty _ _ _ (none_left _ _ _ c.next_head-i.ensures c.if-survey-i.true)

pub returns-then-survey-i-ne4 : goal.returns-then-survey-i-ne4
returns-then-survey-i-ne4 c = laws.fits_empty _ _ _ (none_here _ _ _ c.next_head-i.ensures c.if-survey-i.false c.if-survey-i-ne4.true)

pub returns : goal.returns
returns c = c.fits_router.ensures ∙ laws.fits_some _ _ _ _ _ (some_here _ _ _ c.next_head-i.ensures c.if-survey-i.false c.if-survey-i-ne4.false)
