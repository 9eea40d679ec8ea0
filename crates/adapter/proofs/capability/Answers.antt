use Rattle.adapter.specs.Adapter.{find_cap}
use mathlib.Core.Path.{ap, ◌∙◌}
use Rattle.adapter.proofs.capability.Goals as goal

pub returns : goal.returns
returns c = c.find_cap.ensures ∙ ap (λ z. find_cap c.args.cap z) c.registers_from.ensures
