-- Document 01, "Our descriptions": the table, from `tb_regs.h`. Assumes nothing.
use Rattle.std.specs.Prelude.{ℕ, ◌+◌, ◌^◌, List, [], ◌∷◌, None, Some}
use Prim.Native.String.{String}
use Rattle.util.specs.Text.{bytes_of}
use Rattle.layout.specs.Description.{Field, Description}

-- bits start to end under a name, without a short name
unfoldable pub bits_named : String → ℕ → ℕ → Field
bits_named name s e = record { start = s; end = e; name = bytes_of name; short = [] }

-- a register of any adapter kind and without ids; one under a cap id, of some kinds
unfoldable pub plain : ℕ → ℕ → ℕ → String → List Field → Description
plain place space offset name fields = record { place = place; space = space; offset = offset; cap = None; vs = None; types = None; name = bytes_of name; fields = fields }

unfoldable pub capped : ℕ → ℕ → ℕ → ℕ → String → List Field → Description
capped place cap offset types name fields =
    record { place = place; space = 1; offset = offset; cap = Some cap; vs = None; types = Some types; name = bytes_of name; fields = fields }

-- the kinds' numbers in the order of `Type`
abbrev pub lane : ℕ
lane = 2 ^ 2

abbrev pub both_dp : ℕ
both_dp = 2 ^ 4 + 2 ^ 5

abbrev pub both_pcie : ℕ
both_pcie = 2 ^ 6 + 2 ^ 7

abbrev pub both_usb3 : ℕ
both_usb3 = 2 ^ 8 + 2 ^ 9

unfoldable pub ours : List Description
ours =
    plain 0 0 1 "ROUTER_CS_1" (bits_named "Upstream Adapter" 8 13 ∷ bits_named "Max Adapter" 14 19 ∷ [])
    ∷ plain 15 1 5 "ADP_CS_5" (bits_named "Max Input HopID" 0 10 ∷ [])
    ∷ capped 25 1 1 lane "LANE_ADP_CS_1" (bits_named "Current Link Speed" 16 19 ∷ bits_named "Adapter State" 26 29 ∷ [])
    ∷ capped 43 4 0 both_dp "ADP_DP_CS_0" (bits_named "AE" 30 30 ∷ bits_named "VE" 31 31 ∷ [])
    ∷ capped 53 4 0 both_pcie "ADP_PCIE_CS_0" (bits_named "PE" 31 31 ∷ [])
    ∷ capped 62 4 0 both_usb3 "ADP_USB3_GX_CS_0" (bits_named "V" 30 30 ∷ bits_named "PE" 31 31 ∷ [])
    ∷ plain 73 2 0 "PATH_CS_0" (bits_named "Output HopID" 0 10 ∷ bits_named "Output Adapter" 11 16 ∷ bits_named "Valid" 31 31 ∷ [])
    ∷ []
