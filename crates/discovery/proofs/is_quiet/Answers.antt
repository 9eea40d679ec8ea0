use Rattle.std.specs.Prelude.{Ok}
use mathlib.Core.Path.{sym, ◌∙◌, ap}
use mathlib.Core.Bool.{false≢true}
use Rattle.receive.specs.Tables.{Said.none, Said.dropped, received_outcome}
use Rattle.discovery.proofs.Quiet.{quiet}
use Rattle.discovery.proofs.is_quiet.Goals as goal

pub returns-then-leaves_by : goal.returns-then-leaves_by
returns-then-leaves_by c = λ f e. absurd (false≢true e)

pub returns-in-Ok-Nothing : goal.returns-in-Ok-Nothing
unfolding received_outcome
returns-in-Ok-Nothing c = λ f e. quiet _ 65535 _ none (sym c.leaves_by.ensures ∙ c.if-leaves_by.false) f (ap (received_outcome 65535) (c.in-Ok-Nothing.is ∙ ap Ok (rw c.in-Ok-Nothing.is at c.in-Ok-Nothing.field-0-is)))

pub returns-in-Ok-Lost : goal.returns-in-Ok-Lost
unfolding received_outcome
returns-in-Ok-Lost c = λ f e. quiet _ 65535 _ dropped (sym c.leaves_by.ensures ∙ c.if-leaves_by.false) f (ap (received_outcome 65535) (c.in-Ok-Lost.is ∙ ap Ok (rw c.in-Ok-Lost.is at c.in-Ok-Lost.field-0-is)))

pub returns-in-Err : goal.returns-in-Err
returns-in-Err c = λ f e. absurd (false≢true e)

pub returns-in-Ok-Path : goal.returns-in-Ok-Path
returns-in-Ok-Path c = λ f e. absurd (false≢true e)
