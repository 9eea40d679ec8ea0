use Rattle.grammar.proofs.Checking.{lead_marker, lead_record, lead_other}
use mathlib.Core.Path.{sym, ◌∙◌}
use Rattle.grammar.proofs.lead.Goals as goal

pub returns-then-is_marker : goal.returns-then-is_marker
returns-then-is_marker c = c.with_words.ensures ∙ lead_marker _ _ (sym c.is_marker.ensures ∙ c.if-is_marker.true) _ c.marker-mark.ensures _ c.size_of.ensures _ c.step_of.ensures

pub returns-in_default : goal.returns-in_default
returns-in_default c = lead_other _ _ (sym c.is_marker.ensures ∙ c.if-is_marker.false) _ (sym c.read_line.ensures ∙ c.in_default.is)

pub returns : goal.returns
returns c = c.with_words-2.ensures ∙ lead_record _ _ (sym c.is_marker.ensures ∙ c.if-is_marker.false) _ (sym c.read_line.ensures ∙ c.in-Ok.is) _ c.in_dump.ensures
