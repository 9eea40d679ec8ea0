use borrow.Author.Rules.{rules}
use Rattle.receive.specs.Tables.{note_ring}
use Rattle.receive.proofs.note_word.Goals as goal

pub returns : goal.returns
unfolding note_ring
returns c = search rules
