use Rattle.std.proofs.Common.{arith, sym, length-take-le}
use Rattle.printed.proofs.Room.{printed_within}
use Rattle.tunnels.proofs.write_total.Goals as goal

pub slice_bounds-line-end : goal.slice_bounds-line-end
slice_bounds-line-end g c = omega (arith, printed_within _ c.total.ensures c.in-Ok.is)

pub slice_bounds-write_all-end : goal.slice_bounds-write_all-end
slice_bounds-write_all-end g c = sym (length-take-le _ _ (omega (arith, printed_within _ c.total.ensures c.in-Ok.is)))
