use Rattle.std.proofs.lemmas.Result.{err_from_is_err_and}
use Rattle.load.specs.Work.{KeptFor}
use Rattle.load.proofs.Entries.{pushing_start, pushing_end, pushing_refused, pushing_on}
use Rattle.load.proofs.push_from.Goals as goal

pub returns-then-survey-i-clause-rows : goal.returns-then-survey-i-clause-rows
returns-then-survey-i-clause-rows c = pushing_end _ _ _ _ _ _ _ _ _ _ (pushing_start _ _ _ _ _ _ _ _ c.requires.0 c.next_register-i.ensures) c.if-survey-i.true

pub loop-i-init : goal.loop-i-init
unfolding KeptFor
loop-i-init c = (pushing_start _ _ _ _ _ _ _ _ c.requires.0 c.next_register-i.ensures, rw c.from.ensures at c.fields_of.ensures)

pub returns-in_err-push_entry-clause-rows : goal.returns-in_err-push_entry-clause-rows
returns-in_err-push_entry-clause-rows c = rw (err_from_is_err_and c.from_residual.result c.from_residual.ensures.1).1
    (pushing_refused _ _ _ _ _ _ _ _ _ _ c.loop-i.invariant.0 c.loop-i-test.true _ _ (c.push_entry.ensures.rows _ _ c.keep-kept.ensures.1) _ c.in_err-push_entry.was _)

pub loop-i-preserved : goal.loop-i-preserved
loop-i-preserved c = (pushing_on _ _ _ _ _ _ _ _ _ _ c.loop-i.invariant.0 c.loop-i-test.true _ _ (c.push_entry.ensures.rows _ _ c.keep-kept.ensures.1) _ _ c.in_ok-push_entry.was c.push_entry.ensures.room c.next_register-i-in-loop-i.ensures, c.keep-kept.ensures.0)

pub returns-clause-rows : goal.returns-clause-rows
returns-clause-rows c = pushing_end _ _ _ _ _ _ _ _ _ _ c.loop-i.invariant.0 c.loop-i-test.false
