use Prim.Native.Nat.{◌+◌}
use native.Mathlib.Omega.{arith}
use mathlib.Core.Path.{refl, ap}
use borrow.Author.Tests.{not-false}
use Rattle.columns.specs.Work.{ColumnsAt}
use Rattle.register.specs.Line.{register_of}
use Rattle.columns.proofs.InColumns.{front_of, five_columns}
use mathlib.Core.Bool.{not}
use Rattle.columns.proofs.five_columns.Goals as goal

pub returns-then-not-next_prefixed : goal.returns-then-not-next_prefixed
unfolding ColumnsAt
returns-then-not-next_prefixed c = tt

pub returns-then-not-next_prefixed-2 : goal.returns-then-not-next_prefixed-2
unfolding ColumnsAt
returns-then-not-next_prefixed-2 c = tt

pub read_front-requires : goal.read_front-requires
read_front-requires c = (omega (arith, c.requires.within), omega (arith, c.requires.within), (c.next_prefixed.ensures (not-false _ (ap (λ b. not b) c.if-not-next_prefixed.false))).0)

pub returns-in_default : goal.returns-in_default
unfolding ColumnsAt
returns-in_default c = tt

pub returns-then-value-gt-MAX_32 : goal.returns-then-value-gt-MAX_32
unfolding ColumnsAt
returns-then-value-gt-MAX_32 c = tt

pub returns : goal.returns
unfolding ColumnsAt register_of
returns c = let s = c.args.s.now in
    let i = c.args.i in
    let p = c.next_prefixed.ensures (not-false _ (ap (λ b. not b) c.if-not-next_prefixed.false)) in
    let q = c.next_prefixed-2.ensures (not-false _ (ap (λ b. not b) c.if-not-next_prefixed-2.false)) in
    five_columns s i (i + 19) c.in-Some.f _ (front_of s i (i + 19) _ _ c.in-Some.is c.read_front.ensures) c.if-value-gt-MAX_32.false refl c.requires p.1 q.0 q.1 (c.eight_digits-value.ensures (omega (arith, c.if-value-gt-MAX_32.false)))
