use native.Mathlib.Omega.{arith}
use mathlib.Core.Path.{◌≡◌}
use native.Mathlib.Nat.{div-one}
use Rattle.layout.proofs.byte_of.Goals as goal

pub returns-then-k-eq0 : goal.returns-then-k-eq0
returns-then-k-eq0 c = rw (c.if-k-eq0.true, div-one)

pub returns-then-k-eq1 : goal.returns-then-k-eq1
returns-then-k-eq1 c = rw c.if-k-eq1.true

pub returns-then-k-eq2 : goal.returns-then-k-eq2
returns-then-k-eq2 c = rw c.if-k-eq2.true

pub returns : goal.returns
returns c = rw (let e : c.args.k ≡ 3 = omega arith in e)
