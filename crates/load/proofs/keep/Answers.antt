use mathlib.Core.Path.{sym, ◌∙◌, ap}
use borrow.Author.Tests.{not-true}
use Rattle.load.proofs.Entries as laws
use mathlib.Core.Bool.{not}
use Rattle.load.proofs.keep.Goals as goal

pub returns-then-not-looked_at : goal.returns-then-not-looked_at
returns-then-not-looked_at c = (c.requires.1, laws.keep_none _ _ _ _ _ _ c.word_at.ensures (sym c.looked_at.ensures ∙ not-true _ (ap (λ b. not b) c.if-not-looked_at.true)) _)

pub returns-then-kept-vs : goal.returns-then-kept-vs
returns-then-kept-vs c = let h = c.requires.1 in (h, laws.keep_ids _ _ _ _ _ _ c.word_at.ensures _ _ c.word_at-ids.ensures c.word_at-vs.ensures _ h c.if-kept-ids.true c.if-kept-vs.true)

pub returns : goal.returns
returns c = laws.keep_new _ _ _ _ _ _ c.word_at.ensures _ _ c.word_at-ids.ensures c.word_at-vs.ensures _ (rw c.from.ensures at c.fields_of.ensures)
