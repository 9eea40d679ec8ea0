use Prim.Native.Nat.{◌≤◌}
use native.Mathlib.Omega.{arith}
use lib.ListN.{length}
use Rattle.util.specs.Text.{bytes_of}
use Rattle.print.specs.Print.{most}
use Rattle.print.proofs.Laws.{then, same_long}
use Rattle.printing.specs.Lines.{hop_line, place_of, in_adapter, out_adapter}
use Rattle.printing.proofs.put_hop.Goals as goal

pub returns : goal.returns
unfolding bytes_of hop_line place_of in_adapter out_adapter
returns c = let h : length c.args.out.now ≤ most = omega (arith, c.well_formed) in
    then h (then h (then h (then h (then h (then h (then h (then h (then h c.put_number-a.ensures c.put_text-b.ensures) c.put_number-c.ensures) c.put_text-d.ensures) c.put_number-e.ensures) c.put_text-f.ensures) c.put_number-g.ensures) c.put_text-h.ensures) c.put_number-i.ensures) c.put_text.ensures

pub shape_of-out : goal.shape_of-out
shape_of-out c = same_long (returns c)
