use Rattle.parents.proofs.Laws.{of_router, of_xdomain, of_other}
use mathlib.Core.Path.{◌∙◌}
use Rattle.tables.specs.Packed.{device_row}
use Rattle.parents.proofs.parent_of.Goals as goal

pub returns-in-Router : goal.returns-in-Router
unfolding device_row
returns-in-Router c = record { is = λ k l es. c.router_parent.ensures.is k l es ∙ of_router _ _ _ c.in-Router.is }

pub returns-in-Xdomain : goal.returns-in-Xdomain
unfolding device_row
returns-in-Xdomain c = record { is = λ k l es. c.xdomain_parent.ensures es ∙ of_xdomain _ _ _ c.in-Xdomain.is }

pub returns-in_default : goal.returns-in_default
unfolding device_row
returns-in_default c = record { is = λ k l es. of_other _ _ _ c.in_default.not-Router c.in_default.not-Xdomain }
