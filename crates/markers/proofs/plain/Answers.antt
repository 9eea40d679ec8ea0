use Rattle.util.specs.Text.{bytes_of}
use mathlib.Core.Path.{sym, ◌∙◌}
use Rattle.markers.specs.Markers.{marker_by}
use Rattle.markers.proofs.Laws as laws
use Rattle.markers.proofs.plain.Goals as goal

pub returns-then-is_text : goal.returns-then-is_text
unfolding bytes_of marker_by
returns-then-is_text c = laws.is_usb4_lem _ (sym c.is_text.ensures ∙ c.if-is_text.true)

pub returns-then-is_text-2 : goal.returns-then-is_text-2
unfolding bytes_of marker_by
returns-then-is_text-2 c = laws.is_regs_lem _ (sym c.is_text.ensures ∙ c.if-is_text.false) (sym c.is_text-2.ensures ∙ c.if-is_text-2.true)

pub returns-then-is_text-3 : goal.returns-then-is_text-3
unfolding bytes_of marker_by
returns-then-is_text-3 c = laws.is_paths _ (sym c.is_text.ensures ∙ c.if-is_text.false) (sym c.is_text-2.ensures ∙ c.if-is_text-2.false) (sym c.is_text-3.ensures ∙ c.if-is_text-3.true)

pub returns-then-is_text-4 : goal.returns-then-is_text-4
unfolding bytes_of marker_by
returns-then-is_text-4 c = laws.is_no_paths _ (sym c.is_text.ensures ∙ c.if-is_text.false) (sym c.is_text-2.ensures ∙ c.if-is_text-2.false) (sym c.is_text-3.ensures ∙ c.if-is_text-3.false) (sym c.is_text-4.ensures ∙ c.if-is_text-4.true)

pub returns : goal.returns
unfolding bytes_of marker_by
returns c = laws.is_unknown _ (sym c.is_text.ensures ∙ c.if-is_text.false) (sym c.is_text-2.ensures ∙ c.if-is_text-2.false) (sym c.is_text-3.ensures ∙ c.if-is_text-3.false) (sym c.is_text-4.ensures ∙ c.if-is_text-4.false)
