use Rattle.std.specs.Prelude.{Ok}
use mathlib.Core.Path.{refl, ap, ◌∙◌}
use native.Mathlib.Omega.{arith}
use borrow.Author.Rules.{rules}
use Rattle.receive.proofs.Search.{seek_start, seek_end, seek_refused, seek_lost, seek_passed, seek_at, among_end, among_over, among_on, among_past, among_fits, among_refused}
use Rattle.receive.proofs.seek_path.Goals as goal
use Rattle.receive.proofs.seek_path.Goals.{else-loop-hop-test, then-loop-hop-test+in-Ok-Over}

pub rx_path-init : goal.rx_path-init
rx_path-init c = (seek_start _ _ _, refl, refl)

pub returns-in-Err : goal.returns-in-Err
returns-in-Err c = seek_refused _ _ c.rx_path.invariant.0 c.lane_of.ensures _ c.in-Err.is

pub returns-in-Ok-Dropped : goal.returns-in-Ok-Dropped
returns-in-Ok-Dropped c = seek_lost _ _ c.rx_path.invariant.0 c.lane_of.ensures (c.in-Ok-Dropped.is ∙ ap Ok c.in-Ok-Dropped.field-0-is)

pub loop-hop-init : goal.loop-hop-init
loop-hop-init c = (seek_at _ _ c.rx_path.invariant.0 c.lane_of.ensures _ _ _ _ (c.in-Ok-At.is ∙ ap Ok c.in-Ok-At.field-0-is), refl, c.rx_path.invariant.2)

pub loop-hop-smaller-in-Ok-On : goal.loop-hop-smaller-in-Ok-On
loop-hop-smaller-in-Ok-On c = omega (arith, c.look_at.ensures.further _ (c.in-Ok-On.is ∙ ap Ok c.in-Ok-On.field-0-is))

pub loop-hop-preserved-in-Ok-On : goal.loop-hop-preserved-in-Ok-On
loop-hop-preserved-in-Ok-On c = (among_on _ _ c.loop-hop.invariant.0 c.look_at.ensures _ (c.in-Ok-On.is ∙ ap Ok c.in-Ok-On.field-0-is), c.loop-hop.invariant.1, c.loop-hop.invariant.2)

pub loop-hop-smaller : goal.loop-hop-smaller
loop-hop-smaller c = omega (arith, c.look_at.ensures.passed _ _ (c.in-Ok-Past.is ∙ ap Ok c.in-Ok-Past.field-0-is))

pub loop-hop-preserved : goal.loop-hop-preserved
loop-hop-preserved c = (among_past _ _ c.loop-hop.invariant.0 c.look_at.ensures _ _ (c.in-Ok-Past.is ∙ ap Ok c.in-Ok-Past.field-0-is) (omega (arith, rw (c.in-Ok-At.is ∙ ap Ok c.in-Ok-At.field-0-is) at c.lane_of.type_inv)) _ _ _ c.note_word-word.ensures.0 c.note_word-word.ensures.1 c.put_note-noted.ensures, search rules, c.loop-hop.invariant.2)

pub returns-in-Err-look_at : goal.returns-in-Err-look_at
returns-in-Err-look_at c = among_refused _ _ c.loop-hop.invariant.0 c.look_at.ensures _ c.in-Err-look_at.is

pub rx_path-preserved-in-Ok-Passed : goal.rx_path-preserved-in-Ok-Passed
rx_path-preserved-in-Ok-Passed c = (seek_passed _ _ c.rx_path.invariant.0 c.lane_of.ensures (c.in-Ok-Passed.is ∙ ap Ok c.in-Ok-Passed.field-0-is), c.rx_path.invariant.1, c.rx_path.invariant.2)

pub rx_path-preserved : goal.rx_path-preserved
rx_path-preserved c = (
  (elim c.loop-hop-test.branch [
    | else-loop-hop-test w ↦ among_end _ _ c.loop-hop.invariant.0 w.loop-hop-test.false
    | then-loop-hop-test+in-Ok-Over w ↦ among_over _ _ c.loop-hop.invariant.0 w.look_at.ensures (w.in-Ok-Over.is ∙ ap Ok w.in-Ok-Over.field-0-is)
  ]),
  c.loop-hop.invariant.1 ∙ c.rx_path.invariant.1,
  c.loop-hop.invariant.2,
)

pub returns-after-rx_path : goal.returns-after-rx_path
returns-after-rx_path c = rw c.rx_path.invariant.2 (seek_end _ _ c.rx_path.invariant.0 (omega arith))

pub returns-in-Ok-Fits : goal.returns-in-Ok-Fits
returns-in-Ok-Fits c = among_fits _ _ c.loop-hop.invariant.0 c.look_at.ensures _ (c.in-Ok-Fits.is ∙ ap Ok c.in-Ok-Fits.field-0-is)
