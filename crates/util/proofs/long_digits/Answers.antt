use mathlib.Core.Path.{ap, ◌≡◌, ◌∙◌, sym}
use lib.ListN.{length, drop, get_or}
use Prim.Native.Nat.{◌<◌, ◌*◌, ◌+◌}
use native.Mathlib.Omega.{arith}
use borrow.Author.Tests.{le-ltb}
use Rattle.util.specs.Number.{digit_of, number_of}
use Rattle.util.proofs.Laws.{rest, rest_start, rest_bad, rest_step, rest_over, rest_end, fits_base, past_base}
use Rattle.util.proofs.long_digits.Goals as goal

pub returns-then-s-lt1 : goal.returns-then-s-lt1
unfolding number_of
returns-then-s-lt1 c = simp (le-ltb 0 (length c.args.s.now) (omega arith))

pub loop-b-init : goal.loop-b-init
loop-b-init c = (omega arith, rest_start _ (omega arith) _ 0 _ 0 (omega arith))

pub returns-then-base-d : goal.returns-then-base-d
returns-then-base-d c = let a = c.args in
    let l = c.loop-b in
    let d : digit_of (get_or a.s.now l.b-index 0) ≡ c.digit-d.result = sym c.digit-d.ensures in
    sym (l.invariant.1 ∙ rest_bad a.base (omega arith) a.max l.v a.s.now l.b-index (omega arith) (omega arith))

pub returns-then-most-v : goal.returns-then-most-v
returns-then-most-v c = let a = c.args in
    let l = c.loop-b in
    let d : digit_of (get_or a.s.now l.b-index 0) ≡ c.digit-d.result = sym c.digit-d.ensures in
    let p : 0 < a.base = omega arith in
    sym (l.invariant.1 ∙ rest_over a.base p a.max l.v a.s.now l.b-index (omega arith) (omega arith) (omega (arith, past_base p c.if-most-v.true)))

pub overflow_mul-shifted : goal.overflow_mul-shifted
overflow_mul-shifted c = let p : 0 < c.args.base = omega arith in
    omega (arith, fits_base p c.if-most-v.false)

pub overflow_sub-max : goal.overflow_sub-max
overflow_sub-max c = let p : 0 < c.args.base = omega arith in
    omega (arith, fits_base p c.if-most-v.false)

pub returns-then-max-shifted : goal.returns-then-max-shifted
returns-then-max-shifted c = let a = c.args in
    let l = c.loop-b in
    let d : digit_of (get_or a.s.now l.b-index 0) ≡ c.digit-d.result = sym c.digit-d.ensures in
    sym (l.invariant.1 ∙ rest_over a.base (omega arith) a.max l.v a.s.now l.b-index (omega arith) (omega arith) (omega arith))

pub overflow_add-v : goal.overflow_add-v
overflow_add-v c = let p : 0 < c.args.base = omega arith in
    omega (arith, fits_base p c.if-most-v.false)

pub loop-b-preserved : goal.loop-b-preserved
loop-b-preserved c = let a = c.args in
    let l = c.loop-b in
    let d : digit_of (get_or a.s.now l.b-index 0) ≡ c.digit-d.result = sym c.digit-d.ensures in
    let p : 0 < a.base = omega arith in
    (omega (arith, fits_base p c.if-most-v.false), l.invariant.1 ∙ rest_step a.base p a.max l.v a.s.now l.b-index (omega arith) (omega arith) ∙ ap (λ x. rest a.base a.max (l.v * a.base + x) (drop (l.b-index + 1) a.s.now)) d)

pub returns : goal.returns
returns c = let a = c.args in
    let l = c.loop-b in
    sym (l.invariant.1 ∙ rest_end a.base (omega arith) a.max l.v a.s.now l.b-index (omega arith) (omega arith))
