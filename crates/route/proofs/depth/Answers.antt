use mathlib.Core.Path.{◌∙◌, sym}
use Rattle.route.proofs.Laws.{depth_by_bits}
use Rattle.route.proofs.depth.Goals as goal

pub returns : goal.returns
returns c = c.div_ceil.ensures ∙ sym (depth_by_bits c.args.route c.ranges.route.fits)
