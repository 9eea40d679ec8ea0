use Rattle.text.proofs.Dumps.{record_room, dump_put, no_refusal}
use mathlib.Core.Path.{sym}
use native.Mathlib.Omega.{arith}
use lib.Seq.{length-take-le}
use Rattle.text.proofs.put_dump.Goals as goal

pub slice_bounds-read-end-2 : goal.slice_bounds-read-end-2
slice_bounds-read-end-2 c = sym (length-take-le _ _ (omega (arith, c.min-room.ensures)))

pub overflow_mul-result : goal.overflow_mul-result
overflow_mul-result c = omega (arith, (dump_put c.args.body.now c.args.scratch.now c.args.out.now c.args.k c.min-room.result c.requires.0 c.requires.1 (omega (arith, c.min-room.ensures, record_room c.args.body.now, c.requires.2)) (omega (arith, c.min-room.ensures)) c.read.ensures _ c.in-Ok.is).0, c.well_formed)

pub overflow_add-result : goal.overflow_add-result
overflow_add-result c = omega (arith, (dump_put c.args.body.now c.args.scratch.now c.args.out.now c.args.k c.min-room.result c.requires.0 c.requires.1 (omega (arith, c.min-room.ensures, record_room c.args.body.now, c.requires.2)) (omega (arith, c.min-room.ensures)) c.read.ensures _ c.in-Ok.is).0, c.well_formed)

pub returns : goal.returns
returns c = (dump_put c.args.body.now c.args.scratch.now c.args.out.now c.args.k c.min-room.result c.requires.0 c.requires.1 (omega (arith, c.min-room.ensures, record_room c.args.body.now, c.requires.2)) (omega (arith, c.min-room.ensures)) c.read.ensures _ c.in-Ok.is).1

pub returns-in_default : goal.returns-in_default
returns-in_default c = absurd (no_refusal c.args.body.now c.args.scratch.now c.args.out.now c.args.k c.min-room.result c.requires.0 c.requires.1 (omega (arith, c.min-room.ensures, record_room c.args.body.now, c.requires.2)) (omega (arith, c.min-room.ensures)) c.read.ensures _ c.in_default.is)
