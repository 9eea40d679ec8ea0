-- For the contracts of private functions only. No promise to a caller rests on these. Assumes nothing.
use Rattle.std.specs.Prelude.{ℕ, ◌≤◌, ◌<◌, ◌≡◌, Bool, true, false, not, ◌&&◌, List, length, None, Option, Some}
use Rattle.layout.specs.Description.{Description}
use Rattle.register.specs.declared.Register.{Register}
use Rattle.survey.specs.Devices.{Adapter}
use Rattle.usb4.specs.declared.AdapterType.{AdapterType}
use Rattle.usb4.specs.declared.State.{State}
use Rattle.state.specs.State.{link_speed}
use Rattle.adapter.specs.Adapter.{third_value, kind_of, is_lane, is_lane0, max_hop, AdapterRow, adapter_site, few_registers}

-- the third of at least three registers
unfoldable pub ThirdOf : List Register → Option ℕ → Type 0
ThirdOf rs (Some v) = (3 ≤ length rs) × (v ≡ third_value rs)
ThirdOf rs None = length rs < 3

-- the kind of an adapter that has enough registers
unfoldable pub KindIs : Adapter → Option AdapterType → Type 0
KindIs a (Some k) = (few_registers a ≡ false) × (k ≡ kind_of a)
KindIs a None = few_registers a ≡ true

-- an adapter's row by its number, kind and registers
unfoldable pub row_by : List Description → ℕ → Bool → ℕ → AdapterType → List Register → State → AdapterRow
row_by ds p usb4 n k rs st = record {
  device = p;
  number = n;
  kind = k;
  state = st;
  lane0 = is_lane0 usb4 k n rs;
  lane1 = is_lane k && not (is_lane0 usb4 k n rs);
  speed = link_speed ds (adapter_site p n) k st rs;
  max_hop = max_hop ds (adapter_site p n) k rs;
}
