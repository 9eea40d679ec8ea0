use Rattle.refusal.proofs.Laws.{no_field}
use Rattle.std.specs.Prelude.{Err}
use Rattle.util.specs.Text.{bytes_of}
use mathlib.Core.Path.{◌∙◌, ap}
use Rattle.state.proofs.Laws as laws
use Rattle.state.proofs.gen_t_state.Goals as goal

pub returns-in_default : goal.returns-in_default
unfolding bytes_of
returns-in_default c = c.untold.ensures ∙ laws.gen_t_nowhere _ _ _ _ c.named.ensures.answer _ _ _ _ c.in_default.is

pub returns-in_default-field : goal.returns-in_default-field
unfolding bytes_of
returns-in_default-field c = laws.gen_t_lacks _ _ _ _ c.named.ensures.answer _ c.in-Some.is _ _ c.field.ensures _ _ _ (c.in_default-field.is ∙ ap Err (no_field _))

pub returns : goal.returns
unfolding bytes_of
returns c = c.port_states.ensures ∙ laws.gen_t_has _ _ _ _ c.named.ensures.answer _ c.in-Some.is _ _ c.field.ensures _ _ _ _ c.in-Ok.is _ c.word_at-cap.ensures
