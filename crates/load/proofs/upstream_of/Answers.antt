use Rattle.refusal.proofs.Laws.{no_field}
use Rattle.std.specs.Prelude.{Err}
use mathlib.Core.Path.{◌∙◌, ap}
use Rattle.load.proofs.Fitting as laws
use Rattle.state.proofs.Laws.{found_within}
use native.Mathlib.Omega.{arith}
use Rattle.util.specs.Text.{bytes_of}
use Rattle.load.proofs.upstream_of.Goals as goal

pub returns-in_default : goal.returns-in_default
returns-in_default c = laws.upstream_none _ _ _ c.in_default.is

pub overflow_add-register : goal.overflow_add-register
overflow_add-register c = omega (arith, c.well_formed, found_within _ _ _ _ c.requires c.in-Some.is)

pub returns-in_default-field_value : goal.returns-in_default-field_value
unfolding bytes_of
returns-in_default-field_value c = λ p. laws.upstream_lacks _ _ _ _ _ c.in-Some.is _ c.word_at-value.ensures p _ c.field_value.ensures (c.in_default-field_value.is ∙ ap Err (no_field _))

pub returns : goal.returns
unfolding bytes_of
returns c = λ p. laws.upstream_has _ _ _ _ _ c.in-Some.is _ c.word_at-value.ensures p _ c.field_value.ensures _ c.in-Ok.is
