use Rattle.std.specs.Prelude.{Ok}
use mathlib.Core.Path.{sym, ap, ◌∙◌}
use Rattle.receive.specs.Tables.{is_path}
use Rattle.discovery.proofs.is_path.Goals as goal

pub returns-in-Ok-Path : goal.returns-in-Ok-Path
unfolding is_path
returns-in-Ok-Path c = sym (ap is_path (c.in-Ok-Path.is ∙ ap Ok (rw c.in-Ok-Path.is at c.in-Ok-Path.field-0-is)))

pub returns-in-Ok-Nothing : goal.returns-in-Ok-Nothing
unfolding is_path
returns-in-Ok-Nothing c = sym (ap is_path (c.in-Ok-Nothing.is ∙ ap Ok (rw c.in-Ok-Nothing.is at c.in-Ok-Nothing.field-0-is)))

pub returns-in-Ok-Lost : goal.returns-in-Ok-Lost
unfolding is_path
returns-in-Ok-Lost c = sym (ap is_path (c.in-Ok-Lost.is ∙ ap Ok (rw c.in-Ok-Lost.is at c.in-Ok-Lost.field-0-is)))

pub returns-in-Err : goal.returns-in-Err
unfolding is_path
returns-in-Err c = sym (ap is_path c.in-Err.is)
