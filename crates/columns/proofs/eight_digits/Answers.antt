use Rattle.columns.proofs.InColumns.{eight_digits}
use Rattle.columns.proofs.eight_digits.Goals as goal

pub returns : goal.returns
returns c = λ h. eight_digits c.args.s.now (λ j. (c.shared_slice_known-9-1.given j).fits) _ _ c.args.i c.requires c.word.ensures (c.hex.ensures h)
