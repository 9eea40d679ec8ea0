use Rattle.util.specs.Text.{bytes_of}
use mathlib.Core.Path.{sym, ◌∙◌, ap}
use Rattle.markers.specs.Markers.{marker_by}
use Rattle.markers.proofs.Laws as laws
use borrow.Author.Tests.{not-true, not-false}
use mathlib.Core.Bool.{not}
use Rattle.markers.proofs.adapter.Goals as goal

pub returns-then-not-is_text : goal.returns-then-not-is_text
unfolding bytes_of marker_by
returns-then-not-is_text c = laws.no_adapter _ _ (sym c.is_text.ensures ∙ not-true _ (ap (λ b. not b) c.if-not-is_text.true))

pub returns-in_default : goal.returns-in_default
unfolding bytes_of marker_by
returns-in_default c = laws.adapter_none _ _ (sym c.is_text.ensures ∙ not-false _ (ap (λ b. not b) c.if-not-is_text.false)) (sym c.parse_decimal.ensures ∙ c.in_default.is)

pub returns-then-number-lt1 : goal.returns-then-number-lt1
unfolding bytes_of marker_by
returns-then-number-lt1 c = laws.adapter_zero _ _ (sym c.is_text.ensures ∙ not-false _ (ap (λ b. not b) c.if-not-is_text.false)) _ (sym c.parse_decimal.ensures ∙ c.in-Some.is) c.if-number-lt1.true

pub returns-then-number-gt255 : goal.returns-then-number-gt255
unfolding bytes_of marker_by
returns-then-number-gt255 c = laws.adapter_large _ _ (sym c.is_text.ensures ∙ not-false _ (ap (λ b. not b) c.if-not-is_text.false)) _ (sym c.parse_decimal.ensures ∙ c.in-Some.is) c.if-number-lt1.false c.if-number-gt255.true

pub returns : goal.returns
unfolding bytes_of marker_by
returns c = laws.adapter_is _ _ (sym c.is_text.ensures ∙ not-false _ (ap (λ b. not b) c.if-not-is_text.false)) _ (sym c.parse_decimal.ensures ∙ c.in-Some.is) c.if-number-lt1.false c.if-number-gt255.false
