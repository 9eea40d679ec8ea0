use Rattle.text.proofs.Sections.{next_line_on, next_line_end}
use Rattle.text.proofs.after_line.Goals as goal

pub returns-then-end-text : goal.returns-then-end-text
returns-then-end-text c = next_line_on _ _ c.if-end-text.true

pub returns : goal.returns
returns c = next_line_end _ _ c.if-end-text.false c.requires
