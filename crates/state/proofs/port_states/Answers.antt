use Rattle.refusal.proofs.Laws.{no_field}
use Rattle.std.specs.Prelude.{Ok, Err}
use mathlib.Core.Path.{sym, ◌∙◌, ap}
use Rattle.state.proofs.Laws as laws
use Rattle.state.proofs.port_states.Goals as goal

pub loop-port-init : goal.loop-port-init
loop-port-init c = laws.ports_all _ _ _ _ _ _

pub returns-then-offset-gt65535 : goal.returns-then-offset-gt65535
returns-then-offset-gt65535 c = laws.ports_past _ _ _ _ _ _ _ c.loop-port-test.true c.if-offset-gt65535.true ∙ c.loop-port.invariant

pub returns-in-Err-NoField : goal.returns-in-Err-NoField
returns-in-Err-NoField c = laws.ports_missing _ _ _ _ _ _ _ c.loop-port-test.true c.if-offset-gt65535.false _ (c.port_set.ensures _) (c.in-Err-NoField.is ∙ ap Err (no_field _)) ∙ c.loop-port.invariant

pub returns-in-Ok-true : goal.returns-in-Ok-true
returns-in-Ok-true c = laws.ports_set _ _ _ _ _ _ _ c.loop-port-test.true c.if-offset-gt65535.false _ (c.port_set.ensures _) (c.in-Ok-true.is ∙ ap Ok c.in-Ok-true.field-0-test) ∙ c.loop-port.invariant

pub loop-port-preserved : goal.loop-port-preserved
loop-port-preserved c = sym (laws.ports_clear _ _ _ _ _ _ _ c.loop-port-test.true c.if-offset-gt65535.false _ (c.port_set.ensures _) (c.in-Ok-false.is ∙ ap Ok c.in-Ok-false.field-0-test)) ∙ c.loop-port.invariant

pub returns : goal.returns
returns c = laws.ports_end _ _ _ _ _ _ _ c.loop-port-test.false ∙ c.loop-port.invariant
