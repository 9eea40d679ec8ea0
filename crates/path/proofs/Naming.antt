-- The names of paths have document 01's numbers. Assumes nothing.
use mathlib.Core.Path.{refl}
use Rattle.path.specs.Names.{Numbered}

pub numbered : Numbered
numbered = record {
  usb3_down = refl;
  usb3_up = refl;
  video = refl;
  aux_tx = refl;
  aux_rx = refl;
  pcie_down = refl;
  pcie_up = refl;
  dma_tx = refl;
  dma_rx = refl;
  walk = refl;
}
