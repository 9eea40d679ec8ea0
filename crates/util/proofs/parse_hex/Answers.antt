use mathlib.Core.Path.{◌∙◌, ap}
use Rattle.util.specs.Number.{number_of, after_plus, hex_number}
use Rattle.util.proofs.parse_hex.Goals as goal

pub returns : goal.returns
unfolding hex_number
returns c = c.digits.ensures ∙ ap (λ t. number_of 16 c.args.max t) (c.after_plus.ensures ∙ ap after_plus c.after_prefix.ensures)
