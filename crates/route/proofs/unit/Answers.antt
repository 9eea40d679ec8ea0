use Prim.Native.Nat.{◌*◌}
use native.Mathlib.Omega.{arith}
use native.Mathlib.Nat.{one-mul}
use lib.Pow.{shl_exact}
use Rattle.route.proofs.unit.Goals as goal

pub returns : goal.returns
returns c = rw (shl_exact {a = 1} 1 (8 * c.args.depth) 64 (omega arith) (omega arith), one-mul)
