use Rattle.load.proofs.Putting.{adapter_room, adapter_counted, put_adapter}
use Rattle.load.proofs.LoadedRows.put_adapter.Goals as goal

pub bounds-self-inside-n : goal.bounds-self-inside-n
bounds-self-inside-n c = let s = c.self in adapter_room _ _ _ _ s.invariant s.told.0 s.told.1 _ s.view_is c.requires.0

pub invariant_of-self : goal.invariant_of-self
invariant_of-self c = let s = c.self in adapter_counted _ _ _ _ s.invariant s.told.0 s.told.1 _ s.view_is c.requires.0

pub returns : goal.returns
returns c = let s = c.self in put_adapter _ _ _ _ s.invariant s.told.0 s.told.1 _ s.view_is c.requires.0 _ _ c.adapter_word.ensures
