-- Small texts, each with what document 01 says of it. Assumes nothing.
use Prim.Native.Nat.{ℕ}
use Prim.Native.String.{String}
use mathlib.Core.Path.{◌≡◌, refl}
use mathlib.Core.List.{List, [], ◌∷◌}
use Rattle.refusal.specs.Outcome.{Outcome, refused, value, bind}
use Rattle.util.specs.Number.{digit_of, after_prefix, after_plus, value_of, are_digits, number_of, hex_number, decimal_number}
use Rattle.util.specs.Text.{bytes_of}
use Rattle.scan.specs.Scan.{is_space, is_line_feed, is_high, before, place_from, on_first, pieces, filled, tokens, ended, lines}
use Rattle.register.specs.Line.{is_comment, with_token, register_of, four_tokens, five_tokens, by_tokens, meaning}
use Rattle.groups.specs.Group.{group_of, words}
use Rattle.dump.specs.Sort.{insert, sort}
use Rattle.markers.specs.Markers.{is_marker, same, plain_marker, adapter_by, adapter_marker, with_number, device_marker, by_tokens as marker_by, marker_of}
use Rattle.grammar.specs.Grammar.{item_by, item_of, to_usb4, to_regs, to_adapter, to_paths, step_of, in_dump, item_step, marker_size, item_size, check_by, check_from, items_of, in_limit, check_answer}
use Rattle.text.specs.Text.{records_of, sections_of, is_usb4, is_regs, path_mark, next_is, next_path, past, bit, device_head, adapter_head, path_group, device_words, marker_words, survey_words, survey_of}

pub record Case : Type 0 where
  pub text : String
  pub says : Outcome (List ℕ)

pub says : String → Outcome (List ℕ) → Case
says t o = record { text = t; says = o }

pub four : List ℕ → Outcome (List ℕ)
four vs = refused 4 vs

-- a text, and its words or the refusal
pub cases : List Case
cases =
    says "" (value [])
    ∷ says "no marker\n @regs\n# 0 0 0 0\n" (value [])
    -- USB4 and registers read are marked in the head before them; a route has two words
    ∷ says "@router 2 100000001\n@usb4\n@regs\n1 1 0 8100" (value (0x31000003 ∷ 2 ∷ 1 ∷ 1 ∷ 0x50000001 ∷ 0x10000 ∷ 0 ∷ 0x8100 ∷ []))
    ∷ says "@xdomain +1 0x+ff\r\n@usb4\n" (value (0x32000001 ∷ 1 ∷ 255 ∷ 0 ∷ []))
    -- path dump read, missing, neither
    ∷ says "@router 0 0\n@adapter 1\n@paths\n10 0 8 5\n@adapter 2\n@regs\n@nopaths\n@adapter 255\n" (value (0x31000000 ∷ 0 ∷ 0 ∷ 0 ∷ 0x40000201 ∷ 0x50010010 ∷ 0 ∷ 0 ∷ 5 ∷ 0x40000502 ∷ 0x400000ff ∷ []))
    -- by offset, equal ones as they stand
    ∷ says "@router 0 0\n@regs\n3 0 0 1\n2 0 0 2\n3 0 0 3\n" (value (0x31000002 ∷ 0 ∷ 0 ∷ 0 ∷ 0x50000002 ∷ 0 ∷ 0 ∷ 2 ∷ 0x50000003 ∷ 0 ∷ 0 ∷ 1 ∷ 0x50000003 ∷ 0 ∷ 0 ∷ 3 ∷ []))
    -- records outside a dump
    ∷ says "0 0 0 0\n" (four (0 ∷ []))
    ∷ says "@router 0 0\n0 0 0 0\n" (four (4 ∷ []))
    ∷ says "@router 0 0\n@adapter 1\n@nopaths\n0 0 0 0\n" (four (5 ∷ []))
    -- misplaced markers
    ∷ says "@adapter 1\n" (four (0 ∷ []))
    ∷ says "@router 0 0\n@regs\n@usb4\n" (four (4 ∷ []))
    ∷ says "@router 0 0\n@usb4\n@usb4\n" (four (4 ∷ []))
    ∷ says "@xdomain 0 1\n@regs\n" (four (4 ∷ []))
    ∷ says "@router 0 0\n@adapter 1\n@paths\n@regs\n" (four (5 ∷ []))
    ∷ says "@router 0 0\n@paths\n" (four (4 ∷ []))
    -- bad markers
    ∷ says "@Router 0 0\n" (four (0 ∷ []))
    ∷ says "@router 0\n" (four (0 ∷ []))
    ∷ says "@router 0 0 0\n" (four (0 ∷ []))
    ∷ says "@router 4294967296 0\n" (four (0 ∷ []))
    ∷ says "@router 0 0\n@adapter 0\n" (four (4 ∷ []))
    ∷ says "@router 0 0\n@adapter 256\n" (four (4 ∷ []))
    ∷ []

pub Right : Case → Type 0
Right c = survey_of (bytes_of c.text) ≡ c.says

pub AllRight : List Case → Type 0
AllRight [] = ◌≡◌ {A = ℕ} 0 0
AllRight (c ∷ cs) = Right c × AllRight cs

pub small : AllRight cases
unfolding AllRight Right cases says four bytes_of bind digit_of after_prefix after_plus value_of are_digits number_of hex_number decimal_number is_space is_line_feed is_high before place_from on_first pieces filled tokens ended lines is_comment with_token register_of four_tokens five_tokens by_tokens meaning group_of words insert sort is_marker same plain_marker adapter_by adapter_marker with_number device_marker marker_by marker_of item_by item_of to_usb4 to_regs to_adapter to_paths step_of in_dump item_step marker_size item_size check_by check_from items_of in_limit check_answer records_of sections_of is_usb4 is_regs path_mark next_is next_path past bit device_head adapter_head path_group device_words marker_words survey_words survey_of
small = (refl, (refl, (refl, (refl, (refl, (refl, (refl, (refl, (refl, (refl, (refl, (refl, (refl, (refl, (refl, (refl, (refl, (refl, (refl, (refl, (refl, refl)))))))))))))))))))))
