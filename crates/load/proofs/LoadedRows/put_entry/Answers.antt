use Rattle.load.proofs.Putting.{entry_room, entry_counted, put_entry}
use Rattle.load.proofs.LoadedRows.put_entry.Goals as goal

pub bounds-self-inside-n : goal.bounds-self-inside-n
bounds-self-inside-n c = let s = c.self in entry_room _ _ _ _ s.invariant s.told.0 s.told.1 _ s.view_is c.requires.0

pub invariant_of-self : goal.invariant_of-self
invariant_of-self c = let s = c.self in entry_counted _ _ _ _ s.invariant s.told.0 s.told.1 _ s.view_is c.requires.0

pub returns : goal.returns
returns c = let s = c.self in put_entry _ _ _ _ s.invariant s.told.0 s.told.1 _ s.view_is c.requires.0 _ _ c.entry_word.ensures
