-- Document 01, module 6 on a loaded survey: `parent_from`. 3, 4, loading, 14, then 6 and 11 as met. Assumes nothing.
use Rattle.std.specs.Prelude.{ℕ, Bool, cond, List, eqb, Option, None, Some}
use Rattle.refusal.specs.Outcome.{Outcome, value, bind}
use Rattle.refusal.specs.declared.Fault.TheVariants.{NoParentRoute}
use Rattle.usb4.specs.Numbers.{device_kind_number}
use Rattle.usb4.specs.declared.Kind.TheVariants as kind
use Rattle.route.specs.Route.{upstream_route}
use Rattle.adapter.specs.Adapter.{AdapterRow, adapter_site}
use Rattle.tables.specs.Rows.{DeviceRow, Rows, adapter_in, is_router, router_from}
use Rattle.load.specs.Loading.{loaded}
use Rattle.load.specs.Answers.{asked_device}
use Rattle.fabric.specs.Links.{route_or, upstream_route_of}

-- the place of the first router of the device's domain at a route, if there is a route
unfoldable pub router_at : Rows → DeviceRow → Option ℕ → Option ℕ
router_at x d None = None
router_at x d (Some r) = router_from 0 x.devices d.domain r

-- a router's parent by its upstream adapter; none without that adapter
unfoldable pub parent_by : Rows → ℕ → DeviceRow → Option AdapterRow → Outcome (Option ℕ)
parent_by x p d None = value None
parent_by x p d (Some y) = bind (upstream_route_of p d y) (λ r. value (router_at x d r))

unfoldable pub upstream_in : Rows → ℕ → Option ℕ → Option AdapterRow
upstream_in x p None = None
upstream_in x p (Some a) = adapter_in x.adapters p a

unfoldable pub is_xdomain : DeviceRow → Bool
is_xdomain d = eqb (device_kind_number d.kind) (device_kind_number kind.Xdomain)

unfoldable pub router_parent : Rows → ℕ → DeviceRow → Outcome (Option ℕ)
router_parent x p d = bind d.upstream (λ a. parent_by x p d (upstream_in x p a))

unfoldable pub xdomain_parent : Rows → ℕ → DeviceRow → Outcome (Option ℕ)
xdomain_parent x p d = bind (route_or (NoParentRoute (adapter_site p 0)) (upstream_route d.route)) (λ r. value (router_at x d r))

-- `parent_from`: of a router by its upstream adapter, of an xdomain by its route, 11 at depth 0; of any other none
unfoldable pub parent_of : Rows → ℕ → DeviceRow → Outcome (Option ℕ)
parent_of x p d = cond (is_router d) (router_parent x p d) (cond (is_xdomain d) (xdomain_parent x p d) (value None))

unfoldable pub parent_answer : List ℕ → List ℕ → ℕ → Outcome (Option ℕ)
parent_answer t s p = bind (loaded t s) (λ x. bind (asked_device x p) (λ d. parent_of x p d))
