use native.Mathlib.Omega.{arith}
use mathlib.Core.Path.{sym, ap}
use Rattle.markers.specs.Markers.{marker_by}
use Rattle.text.specs.Text.{path_mark}
use Rattle.text.proofs.Sections.{no_path}
use Rattle.text.proofs.path_mark.Goals as goal

pub returns-in-Paths : goal.returns-in-Paths
unfolding path_mark marker_by
returns-in-Paths c = (ap (λ m. path_mark (marker_by m)) (sym c.in-Paths.is), omega arith)

pub returns-in-NoPaths : goal.returns-in-NoPaths
unfolding path_mark marker_by
returns-in-NoPaths c = (ap (λ m. path_mark (marker_by m)) (sym c.in-NoPaths.is), omega arith)

pub returns-in_default : goal.returns-in_default
returns-in_default c = (no_path _ c.in_default.not-Paths c.in_default.not-NoPaths, omega arith)
