use Rattle.refusal.proofs.Laws.{no_field}
use Rattle.std.specs.Prelude.{Err}
use mathlib.Core.Path.{◌∙◌, ap}
use Rattle.adapter.proofs.Laws as laws
use Rattle.util.specs.Text.{bytes_of}
use Rattle.adapter.proofs.max_hop.Goals as goal

pub returns-in_default : goal.returns-in_default
unfolding bytes_of
returns-in_default c = λ s. laws.most_none s _ _ _ _ c.named.ensures.answer c.in_default.is

pub returns-in_default-field : goal.returns-in_default-field
unfolding bytes_of
returns-in_default-field c = λ s. laws.most_lacks s _ _ _ _ c.named.ensures.answer _ c.in-Some.is _ c.field.ensures (c.in_default-field.is ∙ ap Err (no_field _))

pub returns-then-most-gt65535 : goal.returns-then-most-gt65535
unfolding bytes_of
returns-then-most-gt65535 c = λ s. laws.most_wide s _ _ _ _ c.named.ensures.answer _ c.in-Some.is _ c.field.ensures _ c.in-Ok.is c.if-most-gt65535.true

pub returns : goal.returns
unfolding bytes_of
returns c = λ s. laws.most_is s _ _ _ _ c.named.ensures.answer _ c.in-Some.is _ c.field.ensures _ c.in-Ok.is c.if-most-gt65535.false
