use Rattle.load.proofs.Putting.{device_room, device_counted, put_device}
use Rattle.load.proofs.LoadedRows.put_device.Goals as goal

pub bounds-self-inside-n : goal.bounds-self-inside-n
bounds-self-inside-n c = let s = c.self in device_room _ _ _ _ s.invariant s.told.0 s.told.1 _ s.view_is c.requires

pub invariant_of-self : goal.invariant_of-self
invariant_of-self c = let s = c.self in device_counted _ _ _ _ s.invariant s.told.0 s.told.1 _ s.view_is c.requires c.args.device

pub returns : goal.returns
returns c = let s = c.self in put_device _ _ _ _ s.invariant s.told.0 s.told.1 _ s.view_is c.requires c.args.device
