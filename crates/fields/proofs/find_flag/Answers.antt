use mathlib.Core.Path.{◌∙◌}
use Rattle.fields.proofs.Names as names
use Rattle.fields.proofs.find_flag.Goals as goal

pub returns-in_err-field : goal.returns-in_err-field
returns-in_err-field c = c.from_residual.ensures ∙ names.flag_missing _ _ _ c.find_field.ensures c.in_err-field.was

pub returns-then-field : goal.returns-then-field
returns-then-field c = names.flag_wide _ _ _ c.find_field.ensures _ c.in_ok-field.was c.if-field.true

pub returns : goal.returns
returns c = names.flag_bit _ _ _ c.find_field.ensures _ c.in_ok-field.was c.if-field.false
