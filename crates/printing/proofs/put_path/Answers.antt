use Prim.Native.Nat.{◌≤◌}
use native.Mathlib.Omega.{arith}
use lib.ListN.{length}
use Rattle.util.specs.Text.{bytes_of}
use Rattle.print.specs.Print.{most}
use Rattle.print.proofs.Laws.{then}
use Rattle.printing.specs.Lines.{path_line}
use Rattle.printing.proofs.put_path.Goals as goal

pub returns : goal.returns
unfolding bytes_of path_line
returns c = let h : length c.args.out.now ≤ most = omega (arith, c.well_formed) in
    then h (then h (then h (rw c.path_name.ensures at c.put_text-a.ensures) c.put_text-b.ensures) c.put_number-c.ensures) c.put_text.ensures
