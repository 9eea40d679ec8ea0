use Rattle.refusal.proofs.Laws.{no_field}
use Rattle.std.specs.Prelude.{Ok, Err}
use Prim.Native.Nat.{◌≤◌}
use mathlib.Core.Path.{sym, subst, ◌∙◌, ap}
use Rattle.discovery.proofs.Past.{end_range}
use Rattle.discovery.proofs.Answering.{dma_absent, dma_unread, dma_rings}
use Rattle.discovery.proofs.put_dma.Goals as goal

pub put_searched-requires : goal.put_searched-requires
put_searched-requires c = subst (λ n. (1 ≤ n) × (n ≤ 65536)) (sym c.rings_end-end.ensures) (end_range _)

pub returns-in-Ok-None : goal.returns-in-Ok-None
returns-in-Ok-None c = dma_absent _ _ _ _ (c.in-Ok-None.is ∙ ap Ok (rw c.in-Ok-None.is at c.in-Ok-None.field-0-is))

pub returns-in-Err : goal.returns-in-Err
returns-in-Err c = dma_unread _ _ _ _ (c.in-Err.is ∙ ap Err (no_field _))

pub returns-in-Ok-Some : goal.returns-in-Ok-Some
returns-in-Ok-Some c = dma_rings _ _ _ _ _ _ (c.in-Ok-Some.is ∙ ap Ok (rw c.in-Ok-Some.is at c.in-Ok-Some.field-0-is)) c.rings_end-end.ensures _ _ c.put_searched.ensures
