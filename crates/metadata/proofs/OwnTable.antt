-- Our descriptions: the words are accepted and are the table of the document; and some answers over them. Assumes nothing.
use Prim.Native.Nat.{ℕ}
use mathlib.Core.Path.{◌≡◌, refl}
use mathlib.Core.List.{List, [], ◌∷◌, ◌++◌}
use Rattle.std.specs.Prelude.{None, Some}
use Rattle.refusal.specs.Outcome.{refused, value, bind}
use Rattle.util.specs.Bits.{bits_of}
use Rattle.layout.specs.Layout.{byte_at, bytes_from, name_bytes, size_of, heads_from, keep, is_register, registers}
use Rattle.layout.specs.Description.{had, field_of, fields_of, fields_behind, described, descriptions_of}
use Rattle.description.specs.Rules.{good_byte, good_bytes, good_name, zero_unless, good_head, good_range, whole, good_register, good_field, good_group, first_bad, check_of, read_descriptions}
use Rattle.naming.specs.Naming.{is, is_none, kind_fits, cap_fits, vs_fits, fits, only, naming, place_of}
use Rattle.naming.specs.declared.Sought.{Sought}
use Rattle.fields.specs.Names.{lower, alike, field_is, find_field}
use Rattle.metadata.specs.Calls.{at, value_in, field_in}
use Rattle.util.specs.Text.{bytes_of}
use Rattle.metadata.specs.Ours.{bits_named, plain, capped, ours}

-- our descriptions as words
abbrev ours_words : List ℕ
ours_words =
    269156353 ∷ 0 ∷ 0 ∷ 1414877010 ∷ 1130320453 ∷ 3235667 ∷ 607391744 ∷ 1953722453
    ∷ 1835099506 ∷ 1633960224 ∷ 1919251568 ∷ 659294976 ∷ 544760141 ∷ 1885430849 ∷ 7497076 ∷ 336068613
    ∷ 0 ∷ 0 ∷ 1599095873 ∷ 895439683 ∷ 539496192 ∷ 544760141 ∷ 1970302537 ∷ 1866997876
    ∷ 4475248 ∷ 369950721 ∷ 65536 ∷ 4100 ∷ 1162756428 ∷ 1346650463 ∷ 1599292255 ∷ 49
    ∷ 676073984 ∷ 1920103747 ∷ 544501349 ∷ 1802398028 ∷ 1701860128 ∷ 25701 ∷ 762580224 ∷ 1885430849
    ∷ 544367988 ∷ 1952543827 ∷ 101 ∷ 369819648 ∷ 262144 ∷ 4144 ∷ 1599095873 ∷ 1130319940
    ∷ 3170131 ∷ 796393984 ∷ 17729 ∷ 805044736 ∷ 17750 ∷ 369950720 ∷ 262144 ∷ 4288
    ∷ 1599095873 ∷ 1162429264 ∷ 1599292255 ∷ 48 ∷ 805044736 ∷ 17744 ∷ 370147328 ∷ 262144
    ∷ 4864 ∷ 1599095873 ∷ 859984725 ∷ 1599620959 ∷ 811553603 ∷ 796393728 ∷ 86 ∷ 805044736
    ∷ 17744 ∷ 403243008 ∷ 0 ∷ 0 ∷ 1213481296 ∷ 1599292255 ∷ 48 ∷ 539495424
    ∷ 1886680399 ∷ 1210086517 ∷ 1145663599 ∷ 633343488 ∷ 1886680399 ∷ 1092646005 ∷ 1953522020 ∷ 29285
    ∷ 805045504 ∷ 1768710486 ∷ 100
    ∷ []

pub ours_read : read_descriptions ours_words ≡ value ours
unfolding byte_at bytes_from name_bytes size_of heads_from keep is_register registers had field_of fields_of fields_behind described descriptions_of good_byte good_bytes good_name zero_unless good_head good_range whole good_register good_field good_group first_bad check_of read_descriptions bind bytes_of bits_named plain capped ours
ours_read = refl

-- a field cut off behind them is refused at its head
cut_off : check_of (ours_words ++ (536871168 ∷ [])) ≡ refused 3 (91 ∷ [])
unfolding byte_at size_of heads_from good_byte good_bytes good_name zero_unless good_head good_range whole good_register good_field good_group first_bad check_of
cut_off = refl

-- a register under cap id 4 at relative offset 0 of an adapter of a kind
cap_four : ℕ → Sought
cap_four kind = record { space = 1; kind = kind; offset = 0; cap = 4; vs = 0 }

-- of a PCIe Down adapter it is ADP_PCIE_CS_0; of a lane it is nameless, and of both where the description stands twice
pcie : place_of (naming (cap_four 6) ours) ≡ Some 53
unfolding cap_four is is_none kind_fits cap_fits vs_fits fits only naming place_of keep bits_named plain capped ours
pcie = refl

lane : place_of (naming (cap_four 2) ours) ≡ None
unfolding cap_four is is_none kind_fits cap_fits vs_fits fits only naming place_of keep bits_named plain capped ours
lane = refl

twice : place_of (naming (cap_four 6) (ours ++ ours)) ≡ None
unfolding cap_four is is_none kind_fits cap_fits vs_fits fits only naming place_of keep bits_named plain capped ours
twice = refl

-- Max Adapter of 0xc300, and bits 11 to 16 of 0x80000808, in any case; a field of the next register, and a place inside a group
max_adapter : field_in 0xc300 (bytes_of "max ADAPTER") (at 0 ours) ≡ value 3
unfolding bits_of lower alike field_is find_field at value_in field_in bytes_of bits_named plain capped ours
max_adapter = refl

out_adapter_lem : field_in 0x80000808 (bytes_of "Output adapter") (at 73 ours) ≡ value 1
unfolding bits_of lower alike field_is find_field at value_in field_in bytes_of bits_named plain capped ours
out_adapter_lem = refl

of_next : field_in 0xffffffff (bytes_of "V") (at 53 ours) ≡ refused 6 []
unfolding bits_of lower alike field_is find_field at value_in field_in bytes_of bits_named plain capped ours
of_next = refl

inside : field_in 0xffffffff (bytes_of "PE") (at 54 ours) ≡ refused 6 []
unfolding bits_of lower alike field_is find_field at value_in field_in bytes_of bits_named plain capped ours
inside = refl
