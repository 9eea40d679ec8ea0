use Rattle.adapter.proofs.Laws as laws
use Rattle.named.proofs.Laws.{seek_less}
use mathlib.Core.Path.{refl}
use native.Mathlib.Omega.{arith}
use Rattle.adapter.proofs.find_cap.Goals as goal
use Rattle.adapter.proofs.find_cap.Goals.{then-word_at-cap+then-start-lt1, then-word_at-cap+else-start-lt1, else-word_at-cap}

pub returns-then-survey-first : goal.returns-then-survey-first
returns-then-survey-first c = laws.cap_none _ _ _ _ c.next_register-first.ensures c.if-survey-first.true

pub loop-i-init : goal.loop-i-init
loop-i-init c = laws.seek_start _ _ _ _ _ refl c.next_register-first.ensures c.if-survey-first.false _ c.next_register-i.ensures

pub overflow_add-next : goal.overflow_add-next
overflow_add-next c = omega (arith, c.loop-i.invariant.count)

pub loop-i-smaller : goal.loop-i-smaller
loop-i-smaller c = seek_less _ _ _ _ c.loop-i-test.true c.next_register-i-in-loop-i.ensures

pub loop-i-preserved : goal.loop-i-preserved
loop-i-preserved c = let h = c.loop-i.invariant in let l = c.loop-i-test.true in let e = c.word_at.ensures in let n = c.next_register-i-in-loop-i.ensures in
    elim c.if-word_at-cap.branch [
      | then-word_at-cap+then-start-lt1 w ↦ laws.seek_first _ _ _ _ _ _ _ h l _ e _ n w.if-word_at-cap.true w.if-start-lt1.true _ _ w.start-is w.end-is
      | then-word_at-cap+else-start-lt1 w ↦ laws.seek_again _ _ _ _ _ _ _ h l _ e _ n w.if-word_at-cap.true w.if-start-lt1.false _ _ w.start-is w.end-is
      | else-word_at-cap w ↦ laws.seek_pass _ _ _ _ _ _ _ h l _ e _ n w.if-word_at-cap.false _ _ w.start-is w.end-is
    ]

pub returns-then-end-start : goal.returns-then-end-start
returns-then-end-start c = laws.seek_none _ _ _ _ _ _ _ c.loop-i.invariant c.loop-i-test.false c.if-end-start.true

pub returns : goal.returns
returns c = laws.seek_part _ _ _ _ _ _ _ c.loop-i.invariant c.loop-i-test.false c.if-end-start.false
