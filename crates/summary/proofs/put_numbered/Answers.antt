use Prim.Native.Nat.{◌≤◌}
use native.Mathlib.Omega.{arith}
use lib.ListN.{length}
use Rattle.util.specs.Text.{bytes_of}
use Rattle.print.specs.Print.{most}
use Rattle.print.proofs.Laws.{then}
use Rattle.summary.proofs.put_numbered.Goals as goal

pub returns : goal.returns
unfolding bytes_of
returns c = let h : length c.args.out.now ≤ most = omega (arith, c.well_formed) in
    then h (then h c.put_text-a.ensures c.put_number-b.ensures) c.put_text.ensures
