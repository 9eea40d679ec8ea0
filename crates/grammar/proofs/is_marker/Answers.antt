use Rattle.grammar.proofs.Checking.{no_marker}
use Rattle.markers.specs.Markers.{is_marker}
use mathlib.Core.Path.{refl}
use Rattle.grammar.proofs.is_marker.Goals as goal

pub returns-then-line-lt1 : goal.returns-then-line-lt1
returns-then-line-lt1 c = no_marker _ c.if-line-lt1.true

pub returns : goal.returns
unfolding is_marker
returns c = refl
