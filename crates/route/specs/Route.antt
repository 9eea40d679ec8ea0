-- Document 01, module 6: routes. A route has a byte for each router on the way, the lowest byte for the first. Assumes nothing.
use Rattle.std.specs.Prelude.{ℕ, zero, suc, ◌+◌, ◌-◌, ◌*◌, ◌/◌, ◌%◌, ◌^◌, cond, ◌&&◌, eqb, None, Option, Some}
use Rattle.usb4.specs.Codes.{route_shift}

-- of the k lowest bytes those up to the last that is not 0
unfoldable pub used_bytes : ℕ → ℕ → ℕ
used_bytes zero r = 0
used_bytes (suc k) r = cond (eqb r 0) 0 (suc (used_bytes k (r / 2 ^ route_shift)))

-- a depth is from 0 to 8; zero bytes below the last count
unfoldable pub depth_of : ℕ → ℕ
depth_of r = used_bytes 8 r

-- the last byte dropped; none at depth 0
unfoldable pub upstream_route : ℕ → Option ℕ
upstream_route r = cond (eqb (depth_of r) 0) None (Some (r % 2 ^ (route_shift * (depth_of r - 1))))

-- the adapter as one byte more (a route is below that byte, so the Rust's `|` adds); none at depth 8
unfoldable pub downstream_route : ℕ → ℕ → Option ℕ
downstream_route r a = cond (eqb (depth_of r) 8) None (Some (r + a * 2 ^ (route_shift * depth_of r)))

-- a device one deeper, whose lower bytes are the route: its last byte is the adapter
unfoldable pub adapter_beneath : ℕ → ℕ → Option ℕ
adapter_beneath r device =
    cond (eqb (depth_of device) (depth_of r + 1) && eqb r (device % 2 ^ (route_shift * depth_of r)))
    (Some (device / 2 ^ (route_shift * depth_of r) % 256)) None

-- `downstream_adapter` of a router of domain m at route r, for a device of domain n: none where the domains differ
unfoldable pub downstream_adapter : ℕ → ℕ → ℕ → ℕ → Option ℕ
downstream_adapter m r n device = cond (eqb m n) (adapter_beneath r device) None
