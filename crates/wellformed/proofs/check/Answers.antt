use Prim.Native.Nat.{◌≤◌, ◌<◌, ◌-◌, ◌+◌}
use mathlib.Core.Path.{◌∙◌, sym, ap, refl, subst}
use native.Mathlib.Omega.{arith}
use lib.ListN.{length, drop, get_or}
use Rattle.survey.specs.Words.{groups_of}
use Rattle.survey.specs.Rules.{step_of, first_bad}
use Rattle.survey.proofs.Laws.{too_long, at_end, at_cut, at_broken, at_next, size_pos}
use Rattle.wellformed.proofs.check.Goals as goal

pub returns-then-survey-gt-MAX_WORDS : goal.returns-then-survey-gt-MAX_WORDS
returns-then-survey-gt-MAX_WORDS c = too_long _ c.if-survey-gt-MAX_WORDS.true

pub loop-i-init : goal.loop-i-init
loop-i-init c = (omega arith, refl)

pub offset_bounds-survey-i : goal.offset_bounds-survey-i
offset_bounds-survey-i c = omega (arith, c.well_formed)

pub returns-then-survey-i : goal.returns-then-survey-i
returns-then-survey-i c = at_cut c.args.survey.now c.if-survey-gt-MAX_WORDS.false c.loop-i.i c.loop-i.u c.loop-i.invariant.1 c.loop-i-test.true (subst (λ n. length c.args.survey.now - c.loop-i.i < n) c.group_size-size.ensures c.if-survey-i.true)

pub overflow_add-i : goal.overflow_add-i
overflow_add-i c = omega (arith, c.well_formed)

pub returns-in_default : goal.returns-in_default
returns-in_default c = at_broken c.args.survey.now c.if-survey-gt-MAX_WORDS.false c.loop-i.i c.loop-i.u c.loop-i.invariant.1 c.loop-i-test.true (subst (λ n. n ≤ length c.args.survey.now - c.loop-i.i) c.group_size-size.ensures c.if-survey-i.false) (ap (λ v. step_of c.loop-i.u (get_or c.args.survey.now c.loop-i.i 0) v) (sym c.word_at.ensures) ∙ sym c.advance.ensures ∙ c.in_default.is)

pub overflow_add-i-in-loop-i : goal.overflow_add-i-in-loop-i
overflow_add-i-in-loop-i c = omega (arith, c.well_formed, c.if-survey-i.false)

pub loop-i-smaller : goal.loop-i-smaller
loop-i-smaller c = omega (arith, size_pos (get_or c.args.survey.now c.loop-i.i 0), c.group_size-size.ensures, c.loop-i-test.true)

pub loop-i-preserved : goal.loop-i-preserved
loop-i-preserved c = (omega (arith, c.if-survey-i.false, c.loop-i-test.true), at_next c.args.survey.now c.if-survey-gt-MAX_WORDS.false c.loop-i.i c.loop-i.u c.loop-i.invariant.1 c.loop-i-test.true (subst (λ n. n ≤ length c.args.survey.now - c.loop-i.i) c.group_size-size.ensures c.if-survey-i.false) c.in-Some.next (ap (λ v. step_of c.loop-i.u (get_or c.args.survey.now c.loop-i.i 0) v) (sym c.word_at.ensures) ∙ sym c.advance.ensures ∙ c.in-Some.is) ∙ ap (λ n. first_bad (c.loop-i.i + n) c.in-Some.next (groups_of (drop (c.loop-i.i + n) c.args.survey.now))) (sym c.group_size-size.ensures))

pub returns : goal.returns
returns c = at_end c.args.survey.now c.if-survey-gt-MAX_WORDS.false c.loop-i.i c.loop-i.u c.loop-i.invariant.1 c.loop-i-test.false
