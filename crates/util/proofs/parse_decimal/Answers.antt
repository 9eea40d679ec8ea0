use mathlib.Core.Path.{◌∙◌, ap}
use Rattle.util.specs.Number.{number_of, decimal_number}
use Rattle.util.proofs.parse_decimal.Goals as goal

pub returns : goal.returns
unfolding decimal_number
returns c = c.digits.ensures ∙ ap (λ t. number_of 10 c.args.max t) c.after_plus.ensures
