use mathlib.Core.Path.{sym, ◌∙◌}
use Rattle.discovery.proofs.Notes.{known_few, none_known}
use Rattle.discovery.proofs.known_notes.Goals as goal

pub returns-then-noted : goal.returns-then-noted
returns-then-noted g c = none_known _ _ _ _

pub returns-then-is_path : goal.returns-then-is_path
returns-then-is_path g c = none_known _ _ _ _

pub returns : goal.returns
returns g c = known_few _ _ _ _ c.if-noted.false (sym c.is_path.ensures ∙ c.if-is_path.false)
