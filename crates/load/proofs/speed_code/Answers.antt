use Rattle.refusal.proofs.Laws.{no_field}
use Rattle.std.specs.Prelude.{Err}
use mathlib.Core.Path.{◌∙◌, ap}
use Rattle.load.proofs.Packing.{speed_told, speed_refused}
use Rattle.load.proofs.speed_code.Goals as goal

pub returns-in-Ok : goal.returns-in-Ok
returns-in-Ok c = speed_told c.args.speed c.in-Ok.v c.from.result c.in-Ok.is c.from.ensures

pub returns-in-Err-NoField : goal.returns-in-Err-NoField
returns-in-Err-NoField c = speed_refused c.args.speed (c.in-Err-NoField.is ∙ ap Err (no_field _))
