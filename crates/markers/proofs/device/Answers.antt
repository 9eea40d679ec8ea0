use Rattle.util.specs.Text.{bytes_of}
use mathlib.Core.Path.{sym, ◌∙◌}
use Rattle.markers.specs.Markers.{marker_by}
use Rattle.markers.proofs.Laws as laws
use Rattle.markers.proofs.device.Goals as goal

pub returns-in_default : goal.returns-in_default
unfolding bytes_of marker_by
returns-in_default c = laws.domain_none _ _ _ (sym c.parse_decimal.ensures ∙ c.in_default.is)

pub returns-in_default-parse_hex : goal.returns-in_default-parse_hex
unfolding bytes_of marker_by
returns-in_default-parse_hex c = laws.route_none _ _ _ _ (sym c.parse_decimal.ensures ∙ c.in-Some.is) (sym c.parse_hex.ensures ∙ c.in_default-parse_hex.is)

pub overflow_cast-domain : goal.overflow_cast-domain
overflow_cast-domain c = record { fits = laws.domain_fits _ _ (sym c.parse_decimal.ensures ∙ c.in-Some.is) }

pub returns-then-is_text : goal.returns-then-is_text
unfolding bytes_of marker_by
returns-then-is_text c = laws.is_router_lem _ _ _ _ (sym c.parse_decimal.ensures ∙ c.in-Some.is) _ (sym c.parse_hex.ensures ∙ c.in-Some-parse_hex.is) (sym c.is_text.ensures ∙ c.if-is_text.true)

pub returns-then-is_text-2 : goal.returns-then-is_text-2
unfolding bytes_of marker_by
returns-then-is_text-2 c = laws.is_xdomain_lem _ _ _ _ (sym c.parse_decimal.ensures ∙ c.in-Some.is) _ (sym c.parse_hex.ensures ∙ c.in-Some-parse_hex.is) (sym c.is_text.ensures ∙ c.if-is_text.false) (sym c.is_text-2.ensures ∙ c.if-is_text-2.true)

pub returns : goal.returns
unfolding bytes_of marker_by
returns c = laws.no_device _ _ _ _ (sym c.parse_decimal.ensures ∙ c.in-Some.is) _ (sym c.parse_hex.ensures ∙ c.in-Some-parse_hex.is) (sym c.is_text.ensures ∙ c.if-is_text.false) (sym c.is_text-2.ensures ∙ c.if-is_text-2.false)
