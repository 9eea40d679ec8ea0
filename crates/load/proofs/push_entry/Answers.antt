use Rattle.refusal.proofs.Laws.{no_field}
use Rattle.std.specs.Prelude.{Ok, Err}
use Rattle.std.proofs.lemmas.Result.{err_from_is_err_and}
use mathlib.Core.Path.{sym, ◌∙◌, ap}
use borrow.Author.Tests.{not-true, not-false}
use Rattle.load.proofs.Joining.{room_entry}
use Rattle.load.proofs.Entries as laws
use mathlib.Core.Bool.{not}
use Rattle.load.proofs.push_entry.Goals as goal

pub returns-then-not-looked_at-clause-rows : goal.returns-then-not-looked_at-clause-rows
returns-then-not-looked_at-clause-rows c = laws.push_none _ _ _ _ _ c.word_at-offset.ensures _ _ (sym c.looked_at.ensures ∙ not-true _ (ap (λ b. not b) c.if-not-looked_at.true))

pub returns-in_err-read-clause-rows : goal.returns-in_err-read-clause-rows
returns-in_err-read-clause-rows c = rw (err_from_is_err_and c.from_residual.result c.from_residual.ensures.1).1
    (laws.push_refused _ _ _ _ _ c.word_at-offset.ensures _ _ (sym c.looked_at.ensures ∙ not-false _ (ap (λ b. not b) c.if-not-looked_at.false)) _ c.word_at.ensures _ c.entry_by.ensures _ (c.in_err-read.was ∙ ap Err (no_field _)))

pub returns-in_default-clause-rows : goal.returns-in_default-clause-rows
returns-in_default-clause-rows c = laws.push_invalid _ _ _ _ _ c.word_at-offset.ensures _ _ (sym c.looked_at.ensures ∙ not-false _ (ap (λ b. not b) c.if-not-looked_at.false)) _ c.word_at.ensures _ c.entry_by.ensures (c.in_ok-read.was ∙ ap Ok c.in_default.is)

pub returns : goal.returns
returns c = record {
  rows = laws.push_valid _ _ _ _ _ c.word_at-offset.ensures _ _ (sym c.looked_at.ensures ∙ not-false _ (ap (λ b. not b) c.if-not-looked_at.false)) _ c.word_at.ensures _ c.entry_by.ensures _ (c.in_ok-read.was ∙ ap Ok c.in-Some.is) _ c.put_entry.ensures;
  room = room_entry _ _ _ c.requires.0 c.requires.1 _ _ c.put_entry.ensures;
}
