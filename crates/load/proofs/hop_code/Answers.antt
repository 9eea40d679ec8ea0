use Rattle.std.specs.Prelude.{Ok}
use Rattle.refusal.proofs.Laws.{no_field}
use Rattle.std.specs.Prelude.{Err}
use mathlib.Core.Path.{◌∙◌, ap}
use Rattle.load.proofs.Packing.{hop_told, hop_none, hop_refused}
use Rattle.load.proofs.hop_code.Goals as goal

pub returns-in-Ok-Some : goal.returns-in-Ok-Some
returns-in-Ok-Some c = hop_told c.args.hop c.in-Ok-Some.h (c.in-Ok-Some.is ∙ ap Ok (rw c.in-Ok-Some.is at c.in-Ok-Some.field-0-is)) c.requires

pub returns-in-Ok-None : goal.returns-in-Ok-None
returns-in-Ok-None c = hop_none c.args.hop (c.in-Ok-None.is ∙ ap Ok (rw c.in-Ok-None.is at c.in-Ok-None.field-0-is))

pub returns-in-Err-NoField : goal.returns-in-Err-NoField
returns-in-Err-NoField c = hop_refused c.args.hop (c.in-Err-NoField.is ∙ ap Err (no_field _))
