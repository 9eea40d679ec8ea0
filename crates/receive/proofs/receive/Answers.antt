use mathlib.Core.Path.{◌∙◌}
use Rattle.std.proofs.lemmas.List.{length-replicate}
use Rattle.receive.proofs.Search.{in_room_lem}
use Rattle.receive.proofs.receive.Goals as goal

pub returns : goal.returns
returns g c = let s = c.seek_path-sought in in_room_lem _ _ s.ensures (s.auto.notes ∙ length-replicate _ _)
