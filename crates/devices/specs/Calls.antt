-- Document 01, module 6 on a loaded survey: depth, upstream adapter and routes. 3, 4, loading, 14, then 6, 11 or 12 as met. Assumes nothing.
use Rattle.std.specs.Prelude.{Option, ℕ, List}
use Rattle.refusal.specs.Outcome.{Outcome, value, bind}
use Rattle.route.specs.Route.{depth_of}
use Rattle.adapter.specs.Adapter.{AdapterRow}
use Rattle.tables.specs.Rows.{DeviceRow, adapter_in}
use Rattle.load.specs.Loading.{loaded}
use Rattle.load.specs.Answers.{present, asked_device}
use Rattle.fabric.specs.Links.{upstream_route_of, downstream_route_of}
use Rattle.devices.specs.declared.DeviceInfo.{DeviceInfo}

-- what is said of a device that was loaded
unfoldable pub info_of : DeviceRow → DeviceInfo
info_of d = record { kind = d.kind; usb4 = d.usb4; domain = d.domain; route = d.route; depth = depth_of d.route }

unfoldable pub device_answer : List ℕ → List ℕ → ℕ → Outcome DeviceInfo
device_answer t s p = bind (loaded t s) (λ x. bind (asked_device x p) (λ d. value (info_of d)))

-- `upstream_adapter`, or 6
unfoldable pub upstream_answer : List ℕ → List ℕ → ℕ → Outcome (Option ℕ)
upstream_answer t s p = bind (loaded t s) (λ x. bind (asked_device x p) (λ d. d.upstream))

-- a call on an adapter that is asked for, and its device
unfoldable pub on_adapter : List ℕ → List ℕ → ℕ → ℕ → (DeviceRow → AdapterRow → Outcome (Option ℕ)) → Outcome (Option ℕ)
on_adapter t s p a f = bind (loaded t s) (λ x. bind (asked_device x p) (λ d. bind (present (adapter_in x.adapters p a)) (λ y. f d y)))

unfoldable pub upstream_route_answer : List ℕ → List ℕ → ℕ → ℕ → Outcome (Option ℕ)
upstream_route_answer t s p a = on_adapter t s p a (upstream_route_of p)

unfoldable pub downstream_route_answer : List ℕ → List ℕ → ℕ → ℕ → Outcome (Option ℕ)
downstream_route_answer t s p a = on_adapter t s p a (downstream_route_of p)
