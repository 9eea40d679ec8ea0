use borrow.Author.Tests.{not-true}
use mathlib.Core.Path.{sym, ap, ◌∙◌}
use Rattle.layout.specs.Layout.{offset}
use Rattle.named.proofs.Spans.{counted_other, counted_one}
use mathlib.Core.Bool.{not}
use Rattle.named.proofs.counted.Goals as goal

pub returns-then-not-name_is : goal.returns-then-not-name_is
returns-then-not-name_is c = counted_other _ _ _ _ (sym c.name_is.ensures ∙ not-true _ (ap (λ b. not b) c.if-not-name_is.true))

pub returns : goal.returns
returns c = counted_one _ _ _ _ _ _ (ap offset c.word_at.ensures) c.widened.ensures
