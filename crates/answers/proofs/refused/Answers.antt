use mathlib.Core.Path.{ap, ◌∙◌}
use mathlib.Core.List.{[], ◌∷◌}
use Rattle.answers.proofs.Numbered.{numbers_said}
use Rattle.answers.proofs.refused.Goals as goal

pub returns : goal.returns
returns c =
    let n = c.numbers_of-n.result in
    ap (λ w. w ∷ n.first ∷ n.second ∷ 0 ∷ 0 ∷ 0 ∷ 0 ∷ 0 ∷ []) c.from.ensures ∙ numbers_said n _ c.numbers_of-n.ensures
