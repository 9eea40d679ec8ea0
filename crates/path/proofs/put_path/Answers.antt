use Rattle.std.proofs.lemmas.Result.{err_from_is_err_and}
use Rattle.std.specs.Prelude.{Ok}
use mathlib.Core.Path.{ap, ◌∙◌}
use native.Mathlib.Omega.{arith}
use Rattle.path.proofs.Answering.{put_larger, hops_few, put_refused, put_absent, put_short, put_whole}
use Rattle.path.proofs.put_path.Goals as goal

pub returns-then-tables-gt-MOST_ENTRIES : goal.returns-then-tables-gt-MOST_ENTRIES
returns-then-tables-gt-MOST_ENTRIES c = put_larger _ _ _ _ (λ z. omega (arith, z.entries, c.if-tables-gt-MOST_ENTRIES.true))

pub returns-then-tables-gt-MOST_DEVICES : goal.returns-then-tables-gt-MOST_DEVICES
returns-then-tables-gt-MOST_DEVICES c = put_larger _ _ _ _ (λ z. omega (arith, z.devices, c.if-tables-gt-MOST_DEVICES.true))

pub overflow_mul-need : goal.overflow_mul-need
overflow_mul-need c = omega (arith, hops_few _ _ _ (record { entries = omega (arith, c.if-tables-gt-MOST_ENTRIES.false); devices = omega (arith, c.if-tables-gt-MOST_DEVICES.false) }) c.tally.ensures _ _ _ _ (c.in_ok-walked.was ∙ ap Ok c.in-Some.is))

pub overflow_add-need : goal.overflow_add-need
overflow_add-need c = omega (arith, hops_few _ _ _ (record { entries = omega (arith, c.if-tables-gt-MOST_ENTRIES.false); devices = omega (arith, c.if-tables-gt-MOST_DEVICES.false) }) c.tally.ensures _ _ _ _ (c.in_ok-walked.was ∙ ap Ok c.in-Some.is))

pub returns-then-output-need : goal.returns-then-output-need
returns-then-output-need c = put_short _ _ _ _ _ (record { entries = omega (arith, c.if-tables-gt-MOST_ENTRIES.false); devices = omega (arith, c.if-tables-gt-MOST_DEVICES.false) }) c.tally.ensures _ _ _ _ (c.in_ok-walked.was ∙ ap Ok c.in-Some.is) c.if-output-need.true

pub returns-in_err-walked : goal.returns-in_err-walked
returns-in_err-walked c = let p = err_from_is_err_and c.from_residual.result c.from_residual.ensures.1 in
    rw (p.1, p.2) (put_refused _ _ _ _ _ (record { entries = omega (arith, c.if-tables-gt-MOST_ENTRIES.false); devices = omega (arith, c.if-tables-gt-MOST_DEVICES.false) }) c.tally.ensures _ c.in_err-walked.was)

pub returns-in_default : goal.returns-in_default
returns-in_default c = put_absent _ _ _ _ _ (record { entries = omega (arith, c.if-tables-gt-MOST_ENTRIES.false); devices = omega (arith, c.if-tables-gt-MOST_DEVICES.false) }) c.tally.ensures (c.in_ok-walked.was ∙ ap Ok c.in_default.is)

pub returns : goal.returns
returns c = put_whole _ _ _ c.args.output.now _ (record { entries = omega (arith, c.if-tables-gt-MOST_ENTRIES.false); devices = omega (arith, c.if-tables-gt-MOST_DEVICES.false) }) c.tally.ensures _ _ _ _ (c.in_ok-walked.was ∙ ap Ok c.in-Some.is) c.put_walk.new.output c.put_walk.result c.if-output-need.false c.put_walk.auto.output c.put_walk.ensures
