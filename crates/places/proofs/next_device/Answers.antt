use lib.ListN.{get_or, length}
use Rattle.survey.specs.Words.{size_of}
use Prim.Native.Nat.{◌≤◌, ◌<◌, ◌-◌, ◌+◌}
use mathlib.Core.Path.{◌∙◌, sym, ap, refl}
use native.Mathlib.Omega.{arith}
use native.Mathlib.Nat.{le_refl}
use Rattle.survey.specs.Work.{heads_at}
use Rattle.survey.proofs.Laws.{heads_end, heads_cut, heads_device, heads_other, size_pos}
use Rattle.places.proofs.next_device.Goals as goal

pub loop-i-init : goal.loop-i-init
loop-i-init c = (omega (arith, c.requires), refl)

pub offset_bounds-survey-i : goal.offset_bounds-survey-i
offset_bounds-survey-i c = omega (arith, c.well_formed)

pub overflow_add-i : goal.overflow_add-i
overflow_add-i c = omega (arith, c.well_formed, size_pos (get_or c.args.survey.now c.loop-i.i 0), c.group_size-size.ensures)

pub returns-then-survey-i : goal.returns-then-survey-i
returns-then-survey-i c = let t = c.args.survey.now in
    let h : length t - c.loop-i.i < size_of (get_or t c.loop-i.i 0) = omega (arith, c.group_size-size.ensures, c.if-survey-i.true, c.loop-i-test.true) in
    record { within = le_refl (length t); room = λ h. absurd (omega arith); same = c.loop-i.invariant.1 ∙ heads_cut t c.loop-i.i c.loop-i-test.true h ∙ sym (heads_end t (length t) (le_refl (length t))); head = λ h. absurd (omega arith) }

pub returns-then-w-eq3 : goal.returns-then-w-eq3
returns-then-w-eq3 c = let t = c.args.survey.now in
    let d = heads_device t c.loop-i.i c.loop-i-test.true c.if-w-eq3.true (let h : size_of (get_or c.args.survey.now c.loop-i.i 0) ≤ length c.args.survey.now - c.loop-i.i = omega (arith, c.group_size-size.ensures, c.if-survey-i.false, c.loop-i-test.true) in h) in
    record { within = c.loop-i.invariant.0; room = λ h. omega (arith, d.0, c.group_size-size.ensures, c.if-survey-i.false); same = c.loop-i.invariant.1; head = λ h. d.1 }

pub overflow_add-i-in-loop-i : goal.overflow_add-i-in-loop-i
overflow_add-i-in-loop-i c = omega (arith, c.well_formed, c.if-survey-i.false)

pub loop-i-smaller : goal.loop-i-smaller
loop-i-smaller c = omega (arith, size_pos (get_or c.args.survey.now c.loop-i.i 0), c.group_size-size.ensures, c.loop-i-test.true)

pub loop-i-preserved : goal.loop-i-preserved
loop-i-preserved c = let t = c.args.survey.now in
    (omega (arith, c.if-survey-i.false, c.loop-i-test.true), c.loop-i.invariant.1 ∙ heads_other t c.loop-i.i c.loop-i-test.true c.if-w-eq3.false (let h : size_of (get_or c.args.survey.now c.loop-i.i 0) ≤ length c.args.survey.now - c.loop-i.i = omega (arith, c.group_size-size.ensures, c.if-survey-i.false, c.loop-i-test.true) in h) ∙ ap (λ n. heads_at t (c.loop-i.i + n)) (sym c.group_size-size.ensures))

pub returns : goal.returns
returns c = record { within = c.loop-i.invariant.0; room = λ h. absurd (omega arith); same = c.loop-i.invariant.1; head = λ h. absurd (omega arith) }
