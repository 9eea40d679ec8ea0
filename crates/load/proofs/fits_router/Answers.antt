use Rattle.refusal.proofs.Laws.{no_field}
use Rattle.std.specs.Prelude.{Err}
use mathlib.Core.Path.{◌∙◌, ap}
use Rattle.load.proofs.Fitting as laws
use Rattle.state.proofs.Laws.{found_within}
use native.Mathlib.Omega.{arith}
use Rattle.util.specs.Text.{bytes_of}
use Rattle.load.proofs.fits_router.Goals as goal

pub returns-in_default : goal.returns-in_default
returns-in_default c = laws.fits_none _ _ _ c.in_default.is _ _

pub overflow_add-register : goal.overflow_add-register
overflow_add-register c = omega (arith, c.well_formed, found_within _ _ _ _ c.requires c.in-Some.is)

pub returns-in_default-field_value : goal.returns-in_default-field_value
unfolding bytes_of
returns-in_default-field_value c = laws.most_lacks _ _ _ _ _ c.in-Some.is _ c.word_at-value.ensures _ _ _ c.field_value.ensures (c.in_default-field_value.is ∙ ap Err (no_field _))

pub returns-in_default-field_value-2 : goal.returns-in_default-field_value-2
unfolding bytes_of
returns-in_default-field_value-2 c = laws.up_lacks _ _ _ _ _ c.in-Some.is _ c.word_at-value.ensures _ _ _ c.field_value.ensures _ c.in-Ok.is _ c.field_value-2.ensures (c.in_default-field_value-2.is ∙ ap Err (no_field _))

pub returns-then-not-numbered_to : goal.returns-then-not-numbered_to
unfolding bytes_of
returns-then-not-numbered_to c = laws.numbers_wrong _ _ _ _ _ c.in-Some.is _ c.word_at-value.ensures _ _ _ c.field_value.ensures _ c.in-Ok.is _ c.field_value-2.ensures _ c.in-Ok-field_value.is _ c.numbered_to.ensures c.if-not-numbered_to.true

pub returns : goal.returns
unfolding bytes_of
returns c = laws.numbers_right _ _ _ _ _ c.in-Some.is _ c.word_at-value.ensures _ _ _ c.field_value.ensures _ c.in-Ok.is _ c.field_value-2.ensures _ c.in-Ok-field_value.is _ c.numbered_to.ensures c.if-not-numbered_to.false
