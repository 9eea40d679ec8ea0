use native.Mathlib.Omega.{arith}
use mathlib.Core.Path.{refl}
use Prim.Native.Nat.{◌+◌}
use Rattle.columns.proofs.InColumns.{run_none, run_space, run_then}
use Rattle.columns.proofs.padded.Goals as goal

pub returns-then-s-i-ne32 : goal.returns-then-s-i-ne32
returns-then-s-i-ne32 c = (omega arith, run_none c.args.s.now c.args.i)

pub returns-then-s-i-ne32-2 : goal.returns-then-s-i-ne32-2
returns-then-s-i-ne32-2 c = (omega arith, run_space c.args.s.now c.args.i _ refl (omega (arith, c.requires)) c.if-s-i-ne32.false)

pub returns-then-s-i-ne32-3 : goal.returns-then-s-i-ne32-3
returns-then-s-i-ne32-3 c = (omega arith, run_then c.args.s.now (run_space c.args.s.now c.args.i _ refl (omega (arith, c.requires)) c.if-s-i-ne32.false) (run_space c.args.s.now (c.args.i + 1) (c.args.i + 2) (omega arith) (omega (arith, c.requires)) c.if-s-i-ne32-2.false))

pub returns : goal.returns
returns c = (omega arith, run_then c.args.s.now (run_space c.args.s.now c.args.i _ refl (omega (arith, c.requires)) c.if-s-i-ne32.false) (run_then c.args.s.now (run_space c.args.s.now (c.args.i + 1) (c.args.i + 2) (omega arith) (omega (arith, c.requires)) c.if-s-i-ne32-2.false) (run_space c.args.s.now (c.args.i + 2) (c.args.i + 3) (omega arith) (omega (arith, c.requires)) c.if-s-i-ne32-3.false)))
