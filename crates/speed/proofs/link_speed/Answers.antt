use Rattle.refusal.proofs.Laws.{no_field}
use Rattle.std.specs.Prelude.{Err}
use Rattle.util.specs.Text.{bytes_of}
use borrow.Author.Tests.{not-true, not-false}
use mathlib.Core.Path.{sym, ◌∙◌, ap}
use Rattle.usb4.proofs.Laws.{no_lane, a_lane}
use Rattle.state.proofs.Laws as laws
use mathlib.Core.Bool.{not}
use Rattle.speed.proofs.link_speed.Goals as goal

pub returns-then-ne : goal.returns-then-ne
returns-then-ne c = λ s. laws.speed_kind _ _ _ _ s (no_lane _ _ c.ne.ensures c.if-ne.true)

pub returns-then-not-has_speed : goal.returns-then-not-has_speed
returns-then-not-has_speed c = λ s. laws.speed_state _ _ _ _ s (a_lane _ _ c.ne.ensures c.if-ne.false) (sym c.has_speed.ensures ∙ not-true _ (ap (λ b. not b) c.if-not-has_speed.true))

pub returns-in_default : goal.returns-in_default
unfolding bytes_of
returns-in_default c = λ s. laws.speed_nowhere _ _ _ _ c.named.ensures.answer s c.in_default.is
    ∙ laws.speed_register _ _ _ _ s (a_lane _ _ c.ne.ensures c.if-ne.false) (sym c.has_speed.ensures ∙ not-false _ (ap (λ b. not b) c.if-not-has_speed.false))

pub returns-in_default-field : goal.returns-in_default-field
unfolding bytes_of
returns-in_default-field c = λ s. laws.speed_lacks _ _ _ _ c.named.ensures.answer _ c.in-Some.is s _ c.field.ensures (c.in_default-field.is ∙ ap Err (no_field _))
    ∙ laws.speed_register _ _ _ _ s (a_lane _ _ c.ne.ensures c.if-ne.false) (sym c.has_speed.ensures ∙ not-false _ (ap (λ b. not b) c.if-not-has_speed.false))

pub returns : goal.returns
unfolding bytes_of
returns c = λ s. laws.speed_has _ _ _ _ c.named.ensures.answer _ c.in-Some.is s _ c.field.ensures _ c.in-Ok.is _ c.speed_of.ensures
    ∙ laws.speed_register _ _ _ _ s (a_lane _ _ c.ne.ensures c.if-ne.false) (sym c.has_speed.ensures ∙ not-false _ (ap (λ b. not b) c.if-not-has_speed.false))
