use Rattle.std.specs.Prelude.{Ok}
use Rattle.std.proofs.lemmas.Result.{err_from_is_err_and}
use mathlib.Core.Path.{sym, ap, ◌∙◌}
use Rattle.tables.specs.Found.{device_found}
use Rattle.tables.specs.Packed.{device_row}
use Rattle.fabric.specs.Tables.{rows_with}
use Rattle.fabric.proofs.Laws.{device_fits}
use Rattle.receive.specs.Work.{lane_outcome}
use Rattle.receive.proofs.Lanes.{lane_nowhere, lane_left, lane_refused, lane_alone, lane_under}
use borrow.Author.Tests.{not-true, not-false}
use mathlib.Core.Bool.{not}
use Rattle.receive.proofs.lane_of.Goals as goal
use Rattle.tables.specs.Tables.{rows_of}

pub returns-in_default : goal.returns-in_default
unfolding lane_outcome rows_of device_row device_found
returns-in_default c = record { is = λ k. lane_nowhere _ _ (ap (device_found _) (sym c.in_default.is) ∙ c.find_device.ensures) }

pub returns-then-not-taken : goal.returns-then-not-taken
unfolding lane_outcome rows_of device_row device_found
returns-then-not-taken c = record { is = λ k. lane_left _ _ _ (ap (device_found _) (sym c.in-Some.is) ∙ c.find_device.ensures) (sym (c.taken.ensures _) ∙ not-true c.taken.result (ap (λ b. not b) c.if-not-taken.true)) }

pub returns-in_err-q : goal.returns-in_err-q
unfolding lane_outcome rows_of rows_with device_row device_found
returns-in_err-q c =
    let p = err_from_is_err_and c.from_residual.result c.from_residual.ensures.1 in
    rw (p.1, p.2) record {
      is = λ k. let at = (ap (device_found _) (sym c.in-Some.is) ∙ c.find_device.ensures) in
          lane_refused _ _ _ at (sym (c.taken.ensures _) ∙ not-false c.taken.result (ap (λ b. not b) c.if-not-taken.false)) _ (c.parent_of.ensures.is k (device_fits _ _ _ k at) _) _ c.in_err-q.was;
    }

pub returns-in_default-2 : goal.returns-in_default-2
unfolding lane_outcome rows_of rows_with device_row device_found
returns-in_default-2 c = record {
  is = λ k. let at = (ap (device_found _) (sym c.in-Some.is) ∙ c.find_device.ensures) in
      lane_alone _ _ _ at (sym (c.taken.ensures _) ∙ not-false c.taken.result (ap (λ b. not b) c.if-not-taken.false)) _ (c.parent_of.ensures.is k (device_fits _ _ _ k at) _) (c.in_ok-q.was ∙ ap Ok c.in_default-2.is);
}

pub returns : goal.returns
unfolding lane_outcome rows_of rows_with device_row device_found
returns c = record {
  is = λ k. let at = (ap (device_found _) (sym c.in-Some.is) ∙ c.find_device.ensures) in
      lane_under _ _ _ at (sym (c.taken.ensures _) ∙ not-false c.taken.result (ap (λ b. not b) c.if-not-taken.false)) _ (c.parent_of.ensures.is k (device_fits _ _ _ k at) _) _ (c.in_ok-q.was ∙ ap Ok c.in-Some-2.is) ((c.beneath.ensures c.args.place).is k);
}
