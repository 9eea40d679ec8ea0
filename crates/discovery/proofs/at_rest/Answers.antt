use borrow.Author.Tests.{not-false}
use Rattle.discovery.proofs.Rings.{idle_start}
use Rattle.discovery.proofs.Quiet.{all_rest}
use mathlib.Core.Bool.{not}
use mathlib.Core.Path.{ap}
use Rattle.discovery.proofs.at_rest.Goals as goal

pub returns-then-not-is_quiet : goal.returns-then-not-is_quiet
returns-then-not-is_quiet c = λ f. idle_start _ _ _ 2048

pub returns : goal.returns
returns c = λ f. all_rest _ _ _ _ (c.is_quiet.ensures f (not-false c.is_quiet.result (ap (λ b. not b) c.if-not-is_quiet.false))) c.unmark_all.ensures
