use Rattle.std.proofs.Common.{sym, ◌∙◌}
use Rattle.std.proofs.lemmas.List.Quantifiers.{position-Some}
use Rattle.discovery.specs.Work.{under}
use Rattle.discovery.proofs.Notes.{told_last, told_path}
use Rattle.discovery.proofs.path_by_notes.Goals as goal

pub bounds-notes-i : goal.bounds-notes-i
bounds-notes-i c = (position-Some (under c.args.ring) _ _ 0 (sym c.find_note.ensures ∙ c.in-Some.is)).0

pub returns-in-Some : goal.returns-in-Some
returns-in-Some c = told_path _ _ _ _ c.requires _ (sym c.find_note.ensures ∙ c.in-Some.is) _ (c.noted_path.ensures _)

pub returns-in-None : goal.returns-in-None
returns-in-None c = told_last _ _ _ _ c.requires (sym c.find_note.ensures ∙ c.in-None.is)
