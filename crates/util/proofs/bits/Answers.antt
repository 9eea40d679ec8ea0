use Prim.Native.Nat.{◌+◌, ◌-◌}
use mathlib.Core.Path.{sym}
use native.Mathlib.Omega.{arith}
use native.Mathlib.Nat.{one-mul}
use lib.Pow.{shl_exact, pow_pos}
use Rattle.util.specs.Bits.{bits_of}
use Rattle.util.proofs.Laws.{bits_none, bits_top, bits_past}
use Rattle.util.proofs.bits.Goals as goal

pub returns-then-start-gt31 : goal.returns-then-start-gt31
returns-then-start-gt31 c = sym (bits_past _ _ _ c.ranges.word.fits c.if-start-gt31.true)

pub returns-then-end-start : goal.returns-then-end-start
returns-then-end-start c = sym (bits_none _ _ _ c.if-end-start.true)

pub returns-then-end-ge31 : goal.returns-then-end-ge31
returns-then-end-ge31 c = sym (bits_top _ _ _ c.ranges.word.fits c.if-end-ge31.true (omega arith))

pub nonzero_rem-result : goal.nonzero_rem-result
nonzero_rem-result c = let k = c.args.end + 1 - c.args.start in
    rw (shl_exact {a = 1} 1 k 32 (omega arith) (omega arith), one-mul) (pow_pos k)

pub returns : goal.returns
unfolding bits_of
returns c = let k = c.args.end + 1 - c.args.start in
    rw (shl_exact {a = 1} 1 k 32 (omega arith) (omega arith), one-mul)
