use Rattle.discovery.proofs.Notes.{told_known}
use Rattle.discovery.proofs.put_by_search.Goals as goal

pub put_noted-requires : goal.put_noted-requires
put_noted-requires g c = (c.requires.0, c.requires.1, told_known _ _ _ _ _ _ c.requires.2 _ c.known_notes.ensures, c.requires.2.comes)
