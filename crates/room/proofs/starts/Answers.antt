use Prim.Native.Nat.{◌+◌, ◌-◌}
use mathlib.Core.Path.{◌≡◌}
use native.Mathlib.Omega.{arith}
use Rattle.room.proofs.LineStarts.{starts_on, starts_end, starts_le}
use Rattle.room.proofs.starts.Goals as goal

pub overflow_add-n : goal.overflow_add-n
overflow_add-n c = let l = c.loop-i in
    let s = c.args.s.now in
    omega (arith, l.invariant, starts_on s (l.i - 1) l.i (omega (arith, l.auto.i)) c.loop-i-test.true, c.start-n.ensures, starts_le s, c.requires)

pub loop-i-preserved : goal.loop-i-preserved
loop-i-preserved c = let l = c.loop-i in
    let e : l.i + 1 - 1 ≡ l.i = omega arith in
    rw e (omega (arith, l.invariant, starts_on c.args.s.now (l.i - 1) l.i (omega (arith, l.auto.i)) c.loop-i-test.true, c.start-n.ensures))

pub returns : goal.returns
returns c = let l = c.loop-i in
    omega (arith, l.invariant, starts_end c.args.s.now (l.i - 1) l.i (omega (arith, l.auto.i)) c.loop-i-test.false)
