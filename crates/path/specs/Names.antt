-- The number of a path's name, which is any that a byte holds, and document 01's names. Assumes nothing.
use Rattle.std.specs.Prelude.{ℕ, ◌≡◌}
use Rattle.path.specs.declared.PathName.{PathName}
use Rattle.path.specs.declared.TheConstants.PathName as name

abbrev pub name_number : PathName → ℕ
name_number p = p.0

-- document 01's numbers; 9 is the name of a single walk's path
pub record Numbered : Type 0 where
  pub usb3_down : name_number name.USB3_DOWN ≡ 0
  pub usb3_up : name_number name.USB3_UP ≡ 1
  pub video : name_number name.VIDEO ≡ 2
  pub aux_tx : name_number name.AUX_TX ≡ 3
  pub aux_rx : name_number name.AUX_RX ≡ 4
  pub pcie_down : name_number name.PCIE_DOWN ≡ 5
  pub pcie_up : name_number name.PCIE_UP ≡ 6
  pub dma_tx : name_number name.DMA_TX ≡ 7
  pub dma_rx : name_number name.DMA_RX ≡ 8
  pub walk : name_number name.WALK ≡ 9
