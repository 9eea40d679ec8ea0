use Prim.Native.Nat.{◌*◌, ◌+◌}
use mathlib.Core.Path.{◌≡◌, ap, sym, ◌∙◌}
use lib.ListN.{drop, get_or}
use native.Mathlib.Omega.{arith}
use Rattle.util.specs.Number.{digit_of}
use Rattle.util.proofs.Laws.{rest, below, rest_start, rest_bad, rest_step, rest_past, rest_end, next_below, few_below}
use Rattle.util.proofs.short_digits.Goals as goal

pub loop-b-init : goal.loop-b-init
unfolding below
loop-b-init c = (omega arith, rest_start _ c.requires.0 _ 0 _ 0 c.requires.2)

pub returns-then-base-d : goal.returns-then-base-d
returns-then-base-d c = let l = c.loop-b in
    let d : digit_of (get_or c.args.s.now l.b-index 0) ≡ c.digit-d.result = sym c.digit-d.ensures in
    sym (l.invariant.1 ∙ rest_bad c.args.base c.requires.0 c.args.max l.v c.args.s.now l.b-index (omega arith) (omega (arith, d, c.if-base-d.true)))

pub overflow_mul-v : goal.overflow_mul-v
overflow_mul-v c = let l = c.loop-b in
    omega (arith, next_below c.args.base l.v _ l.b-index c.requires.1 c.if-base-d.false l.invariant.0, few_below (l.b-index + 1) (omega (arith, c.requires.3)))

pub overflow_add-v : goal.overflow_add-v
overflow_add-v c = let l = c.loop-b in
    omega (arith, next_below c.args.base l.v _ l.b-index c.requires.1 c.if-base-d.false l.invariant.0, few_below (l.b-index + 1) (omega (arith, c.requires.3)))

pub loop-b-preserved : goal.loop-b-preserved
loop-b-preserved c = let l = c.loop-b in
    let d : digit_of (get_or c.args.s.now l.b-index 0) ≡ c.digit-d.result = sym c.digit-d.ensures in (
      next_below c.args.base l.v _ l.b-index c.requires.1 c.if-base-d.false l.invariant.0,
      l.invariant.1 ∙ rest_step c.args.base c.requires.0 c.args.max l.v c.args.s.now l.b-index (omega arith) (omega (arith, d, c.if-base-d.false)) ∙ ap (λ x. rest c.args.base c.args.max (l.v * c.args.base + x) (drop (l.b-index + 1) c.args.s.now)) d,
    )

pub returns-then-max-v : goal.returns-then-max-v
returns-then-max-v c = let l = c.loop-b in
    sym (l.invariant.1 ∙ rest_past c.args.base c.requires.0 c.args.max l.v (drop l.b-index c.args.s.now) c.if-max-v.true)

pub returns : goal.returns
returns c = let l = c.loop-b in
    sym (l.invariant.1 ∙ rest_end c.args.base c.requires.0 c.args.max l.v c.args.s.now l.b-index c.loop-b-test.false c.if-max-v.false)
