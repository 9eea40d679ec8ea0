use Rattle.columns.proofs.InColumns.{parted_digits}
use Rattle.columns.proofs.parted_digits.Goals as goal

pub returns : goal.returns
returns c = λ h. parted_digits c.args.s.now (λ j. (c.shared_slice_known-9-1.given j).fits) _ _ c.args.i c.args.j c.args.k c.requires.0 c.requires.1 c.requires.2 c.word.ensures (c.hex.ensures h)
