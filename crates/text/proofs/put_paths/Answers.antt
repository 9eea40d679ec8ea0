use Rattle.dump.specs.Dump.{dump_words}
use lib.ListN.{length}
use Prim.Native.Nat.{◌%◌}
use native.Mathlib.Omega.{arith}
use mathlib.Core.Path.{◌∙◌, ap}
use Rattle.text.specs.Work.{marked, path_words}
use Rattle.text.proofs.Dumps.{middle, put_long, put_again, length_paths, whole_dump}
use Rattle.text.proofs.Marking.{marked_dump}
use Rattle.text.proofs.put_paths.Goals as goal

pub put_dump-r-requires : goal.put_dump-r-requires
put_dump-r-requires c = (c.requires.0, omega (arith, c.requires.1, length_paths c.args.body.now), omega (arith, c.requires.2, length_paths c.args.body.now))

pub slice_bounds-mark_groups-end : goal.slice_bounds-mark_groups-end
slice_bounds-mark_groups-end c = omega (arith, put_long (dump_words c.args.body.now) c.args.out.now c.put_dump-r.new.out c.args.k c.put_dump-r.result (omega (arith, c.requires.1, length_paths c.args.body.now)) c.put_dump-r.ensures)

pub mark_groups-requires : goal.mark_groups-requires
mark_groups-requires c = ap (λ l. length l % 4) (middle (dump_words c.args.body.now) c.args.out.now c.put_dump-r.new.out c.args.k c.put_dump-r.result (omega (arith, c.requires.1, length_paths c.args.body.now)) c.put_dump-r.ensures) ∙ whole_dump c.args.body.now

pub returns : goal.returns
returns c = put_again (dump_words c.args.body.now) c.args.out.now c.put_dump-r.new.out c.args.k c.put_dump-r.result (omega (arith, c.requires.1, length_paths c.args.body.now)) c.put_dump-r.ensures (path_words c.args.body.now) _ (length_paths c.args.body.now) (c.mark_groups.ensures ∙ ap marked (middle (dump_words c.args.body.now) c.args.out.now c.put_dump-r.new.out c.args.k c.put_dump-r.result (omega (arith, c.requires.1, length_paths c.args.body.now)) c.put_dump-r.ensures) ∙ marked_dump c.args.body.now)
