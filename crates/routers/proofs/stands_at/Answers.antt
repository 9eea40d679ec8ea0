use mathlib.Core.Bool.{false≢true}
use mathlib.Core.Path.{sym, ◌∙◌}
use borrow.Author.Tests.{ne_eqb}
use Rattle.usb4.proofs.Laws.{is_router}
use Rattle.routers.proofs.Laws.{by_kind, by_domain, by_route}
use Rattle.routers.proofs.stands_at.Goals as goal
use Rattle.routers.proofs.stands_at.Goals.{then-device-route, else-device-route}

pub returns-then-device-domain : goal.returns-then-device-domain
returns-then-device-domain c = elim c.if-device-route.branch [
  | then-device-route w ↦ by_kind _ _ _ _ (c.eq.ensures ∙ is_router _) (sym w.value-is ∙ c.if-device-domain.true) w.if-device-route.true
  | else-device-route w ↦ absurd (false≢true (sym (ne_eqb _ _ w.if-device-route.false) ∙ sym w.value-is ∙ c.if-device-domain.true))
]

pub returns-else-device-domain : goal.returns-else-device-domain
returns-else-device-domain c = elim c.if-device-route.branch [
  | then-device-route w ↦ by_domain _ _ _ _ w.value-is c.if-device-domain.false
  | else-device-route w ↦ by_route _ _ _ _ w.if-device-route.false c.if-device-domain.false
]
