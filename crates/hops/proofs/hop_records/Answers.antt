use Rattle.std.specs.Prelude.{Ok}
use mathlib.Core.Path.{refl, ◌∙◌, ap}
use Rattle.hops.proofs.Laws as laws
use Rattle.hops.proofs.hop_records.Goals as goal

pub returns-then-records-n : goal.returns-then-records-n
returns-then-records-n c = laws.done_short _ _ _ _ _ _ c.discover_path-walked.ensures _ (c.in-Ok-Some.is ∙ ap Ok (rw c.in-Ok-Some.is at c.in-Ok-Some.field-0-is)) _ c.if-records-n.true

pub returns-else-records-n : goal.returns-else-records-n
returns-else-records-n c = rw c.fill.ensures (laws.done_path _ _ _ _ _ _ c.discover_path-walked.ensures _ (c.in-Ok-Some.is ∙ ap Ok (rw c.in-Ok-Some.is at c.in-Ok-Some.field-0-is)) _ c.if-records-n.false)

pub returns-in-Ok-None : goal.returns-in-Ok-None
returns-in-Ok-None c = laws.done_absent _ _ _ _ _ _ c.discover_path-walked.ensures _ (c.in-Ok-None.is ∙ ap Ok (rw c.in-Ok-None.is at c.in-Ok-None.field-0-is))

pub returns-in-Err : goal.returns-in-Err
returns-in-Err c = laws.done_refused _ _ _ _ _ _ c.discover_path-walked.ensures refl _ _ c.in-Err.is
