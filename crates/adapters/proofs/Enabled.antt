-- Laws on whether an adapter is enabled. Assumes nothing.
use mathlib.Core.Path.{◌≡◌, refl}
use mathlib.Core.Bool.{true, false}
use lib.Dec.{eqb}
use Rattle.std.specs.Prelude.{◌⊎◌}
use Rattle.std.proofs.Common.{inl, inr}
use Rattle.usb4.specs.Numbers.{state_number}
use Rattle.usb4.specs.declared.AdapterType.{AdapterType}
use Rattle.usb4.specs.declared.AdapterType.TheVariants as type
use Rattle.usb4.specs.declared.State.{State}
use Rattle.state.specs.State.{is_protocol, is_enabled}

pub enabled_host : (k : AdapterType) (st : State) → k ≡ type.HostInterface → true ≡ is_enabled k st
unfolding is_enabled
enabled_host k st e = rw e refl

pub enabled_never : (k : AdapterType) (st : State) → (k ≡ type.Unknown) ⊎ ((k ≡ type.Inactive) ⊎ (k ≡ type.Lane)) → false ≡ is_enabled k st
unfolding is_enabled is_protocol
enabled_never k st (inl e) = rw e refl
enabled_never k st (inr (inl e)) = rw e refl
enabled_never k st (inr (inr e)) = rw e refl

-- another protocol adapter by its state
pub enabled_state : (k : AdapterType) (st : State) → (k ≡ type.HostInterface → ⊥) → (k ≡ type.Unknown → ⊥) → (k ≡ type.Inactive → ⊥) → (k ≡ type.Lane → ⊥) → eqb (state_number st) 2 ≡ is_enabled k st
unfolding is_enabled is_protocol
enabled_state type.Unknown st h u i l = absurd (u refl)
enabled_state type.Inactive st h u i l = absurd (i refl)
enabled_state type.Lane st h u i l = absurd (l refl)
enabled_state type.HostInterface st h u i l = absurd (h refl)
enabled_state type.DisplayPortIn st h u i l = refl
enabled_state type.DisplayPortOut st h u i l = refl
enabled_state type.PcieDown st h u i l = refl
enabled_state type.PcieUp st h u i l = refl
enabled_state type.Usb3Down st h u i l = refl
enabled_state type.Usb3Up st h u i l = refl
enabled_state type.Usb3GenTDown st h u i l = refl
enabled_state type.Usb3GenTUp st h u i l = refl
