use native.Mathlib.Omega.{arith}
use lib.ListN.{get_or}
use Rattle.room.proofs.Lines.{no_records}
use Rattle.room.proofs.LineStarts.{start_one, starts_le, most_starts}
use Rattle.room.proofs.most_records.Goals as goal

-- `room::most_records` meets its contract.
pub returns-then-s-lt1 : goal.returns-then-s-lt1
returns-then-s-lt1 c = omega (arith, no_records c.args.s.now 0 (omega (arith, c.if-s-lt1.true)))

pub overflow_add-result : goal.overflow_add-result
overflow_add-result c = let s = c.args.s.now in
    omega (arith, c.all_starts.ensures, c.start.ensures, start_one 10 (get_or s 0 0), starts_le s, c.well_formed)

pub returns : goal.returns
returns c = omega (arith, c.all_starts.ensures, c.start.ensures, most_starts c.args.s.now (omega (arith, c.if-s-lt1.false)))
