-- Laws on least HopIDs, by a kind that is matched. Assumes nothing.
use mathlib.Core.Path.{◌≡◌, refl}
use Rattle.std.specs.Prelude.{None, Some, ◌⊎◌}
use Rattle.std.proofs.Common.{inl, inr}
use Rattle.usb4.specs.declared.AdapterType.{AdapterType}
use Rattle.usb4.specs.declared.AdapterType.TheVariants as type
use Rattle.adapter.specs.Adapter.{min_hop}

pub no_hops : (k : AdapterType) → (k ≡ type.Unknown) ⊎ (k ≡ type.Inactive) → None ≡ min_hop k
unfolding min_hop
no_hops k (inl e) = rw e refl
no_hops k (inr e) = rw e refl

pub host_hops : (k : AdapterType) → k ≡ type.HostInterface → Some 1 ≡ min_hop k
unfolding min_hop
host_hops k e = rw e refl

pub other_hops : (k : AdapterType) → (k ≡ type.Unknown → ⊥) → (k ≡ type.Inactive → ⊥) → (k ≡ type.HostInterface → ⊥) → Some 8 ≡ min_hop k
unfolding min_hop
other_hops type.Unknown u i h = absurd (u refl)
other_hops type.Inactive u i h = absurd (i refl)
other_hops type.Lane u i h = refl
other_hops type.HostInterface u i h = absurd (h refl)
other_hops type.DisplayPortIn u i h = refl
other_hops type.DisplayPortOut u i h = refl
other_hops type.PcieDown u i h = refl
other_hops type.PcieUp u i h = refl
other_hops type.Usb3Down u i h = refl
other_hops type.Usb3Up u i h = refl
other_hops type.Usb3GenTDown u i h = refl
other_hops type.Usb3GenTUp u i h = refl
