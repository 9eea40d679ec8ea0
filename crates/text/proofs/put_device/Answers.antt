use native.Mathlib.Omega.{arith}
use lib.ListN.{length-set}
use Rattle.text.proofs.Sections.{put_device}
use Rattle.text.proofs.put_device.Goals as goal

pub bounds-out-k-2 : goal.bounds-out-k-2
bounds-out-k-2 c = simp length-set (omega (arith, c.requires.1))

pub bounds-out-k-3 : goal.bounds-out-k-3
bounds-out-k-3 c = simp length-set (omega (arith, c.requires.1))

pub bounds-out-k-4 : goal.bounds-out-k-4
bounds-out-k-4 c = simp length-set (omega (arith, c.requires.1))

pub returns : goal.returns
returns c = put_device _ _ _ _ _ _ _ c.requires.1 c.device_head.ensures
