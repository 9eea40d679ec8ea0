use Prim.Native.Nat.{◌≤◌}
use native.Mathlib.Omega.{arith}
use lib.ListN.{length}
use borrow.Author.Tests.{ne_eqb, eq-eqb}
use Rattle.util.specs.Text.{bytes_of}
use Rattle.print.specs.Print.{most}
use Rattle.print.proofs.Laws.{then}
use Rattle.printing.specs.Lines.{tunnel_line, place_of, in_adapter}
use Rattle.printing.proofs.put_tunnel.Goals as goal

pub returns-then-w-eq1 : goal.returns-then-w-eq1
unfolding bytes_of tunnel_line place_of in_adapter
returns-then-w-eq1 c = let h : length c.args.out.now ≤ most = omega (arith, c.well_formed) in
    rw (eq-eqb _ 1 c.if-w-eq1.true) (then h (then h (then h (then h (then h (then h (then h (rw c.type_name.ensures at c.put_text-a.ensures) c.put_text-b.ensures) c.put_number-c.ensures) c.put_text-d.ensures) c.put_number-e.ensures) c.put_text-f.ensures) c.put_number-g.ensures) c.put_text.ensures)

pub returns : goal.returns
unfolding bytes_of tunnel_line place_of in_adapter
returns c = let h : length c.args.out.now ≤ most = omega (arith, c.well_formed) in
    rw (ne_eqb _ 1 c.if-w-eq1.false) (then h (then h (then h (then h (then h (then h (then h (rw c.type_name.ensures at c.put_text-a.ensures) c.put_text-b.ensures) c.put_number-c.ensures) c.put_text-d.ensures) c.put_number-e.ensures) c.put_text-f.ensures) c.put_number-g.ensures) c.put_text-2.ensures)
