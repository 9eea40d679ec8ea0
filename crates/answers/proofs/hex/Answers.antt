use mathlib.Core.Path.{sym, ap, ◌∙◌}
use Rattle.refusal.specs.Outcome.{value, bind}
use Rattle.answers.specs.Said.{said, padded, words_in, perhaps, one}
use Rattle.answers.proofs.hex.Goals as goal

pub returns-in-Some : goal.returns-in-Some
unfolding said padded perhaps words_in one bind
returns-in-Some c = c.result.ensures ∙ sym (ap (λ a. said (perhaps one (value a))) (sym c.hex_of_bits.ensures ∙ c.in-Some.is))

pub returns-in-None : goal.returns-in-None
unfolding said padded perhaps words_in one bind
returns-in-None c = sym (ap (λ a. said (perhaps one (value a))) (sym c.hex_of_bits.ensures ∙ c.in-None.is))
