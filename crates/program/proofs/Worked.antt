-- Document 01's worked input, as text, and what is printed of it, by the definitions. Assumes nothing.
use Prim.Native.Nat.{ℕ}
use mathlib.Core.Path.{◌≡◌, refl, ap, ◌∙◌}
use mathlib.Core.List.{List}
use Rattle.refusal.specs.Outcome.{value, bind}
use Rattle.util.specs.Number.{digit_of, after_prefix, after_plus, value_of, are_digits, number_of, hex_number, decimal_number}
use Rattle.util.specs.Text.{bytes_of}
use Rattle.scan.specs.Scan.{is_space, is_line_feed, is_high, before, place_from, on_first, pieces, filled, tokens, ended, lines}
use Rattle.register.specs.Line.{is_comment, with_token, register_of, four_tokens, five_tokens, by_tokens, meaning}
use Rattle.groups.specs.Group.{group_of, words}
use Rattle.dump.specs.Sort.{insert, sort}
use Rattle.markers.specs.Markers.{is_marker, same, plain_marker, adapter_by, adapter_marker, with_number, device_marker, by_tokens as marker_by, marker_of}
use Rattle.grammar.specs.Grammar.{item_by, item_of, to_usb4, to_regs, to_adapter, to_paths, step_of, in_dump, item_step, marker_size, item_size, check_by, check_from, items_of, in_limit, check_answer}
use Rattle.text.specs.Text.{records_of, sections_of, is_usb4, is_regs, path_mark, next_is, next_path, past, bit, device_head, adapter_head, path_group, device_words, marker_words, survey_words, survey_of}
use Rattle.survey.specs.Devices.{read_survey}
use Rattle.metadata.specs.Ours.{ours}
use Rattle.load.specs.Loading.{load_from}
use Rattle.load.specs.Answers.{present, asked_device, asked_adapter}
use Rattle.load.proofs.Example.{example, entry, plain_row, router_row, example_rows, read_and_load}
use Rattle.route.specs.Route.{used_bytes, depth_of, upstream_route, downstream_route, adapter_beneath, downstream_adapter}
use Rattle.state.specs.State.{is_enabled, is_protocol}
use Rattle.adapter.specs.Adapter.{is_lane, adapter_site, min_hop}
use Rattle.tables.specs.Rows.{entry_in, adapter_in, device_in, is_router, router_from}
use Rattle.fabric.specs.Links.{is_upstream, route_or, upstream_route_of, downstream_route_of}
use Rattle.fabric.specs.Fabric.{stand_by, stand_at, up_by, arrive_up, down_by, arrive_down, to_device, to_router, to_route, leads_from, leads_by, leads}
use Rattle.orbit.specs.Walk.{walk_n, hops_n, hop_at, onward, made, turned, arrive, found}
use Rattle.walk.specs.Walking.{turn_by, walk_on, path_of}
use Rattle.walk.specs.Rule.{settled, walk_from}
use Rattle.walk.specs.Tables.{last_of}
use Rattle.path.specs.Words.{hop_words, hops_words, path_words}
use Rattle.receive.specs.Receive.{at}
use Rattle.tunnel.specs.Tunnels.{path, leaving, or_absent, needed, tunnel_of, down_and_up, or_none, dma, alone, of_kind, discover}
use Rattle.tunnel.specs.Words.{back_to, last_path, closed_by, closed, paths_words, tunnel_word, tunnel_words, tunnels_words}
use Rattle.discovery.specs.Answers.{discover_at}
use Rattle.print.specs.Print.{digits, decimal}
use Rattle.printing.specs.Lines.{kind_of, is_tunnel, is_hop, type_name, path_name, place_of, in_adapter, out_adapter, tunnel_line, path_line, hop_line, line_of}
use Rattle.printed.specs.Printed.{parts_of, lines_by, lines_of, one, tunnels_by, tunnels_in, total_line}
use Rattle.report.specs.Report.{words_by, answer_of, answers_of, total_of, pages_of, report_of}
use Rattle.program.specs.Program.{surveyed, rows_in, said, program_of}

unfoldable pub input : List ℕ
input = bytes_of "@router 0 0\n@regs\n1 1 0 0 c300\n@adapter 1\n@regs\n0 0 0 0 0\n1 1 0 0 0\n2 2 0 0 1\n@paths\n10 0 8 80001008\n@adapter 2\n@regs\n0 0 0 0 0\n1 1 0 0 0\n2 2 0 0 100101\n39 0 4 0 80000000\n@paths\n10 0 8 80000808\n@adapter 3\n@regs\n0 0 0 0 0\n1 1 0 0 0\n2 2 0 0 2\n@router 0 1\n@regs\n1 1 0 0 8100\n@adapter 1\n@regs\n0 0 0 0 0\n1 1 0 0 0\n2 2 0 0 1\n@paths\n10 0 8 80001008\n@adapter 2\n@regs\n0 0 0 0 0\n1 1 0 0 0\n2 2 0 0 100102\n@paths\n10 0 8 80000808\n"

unfoldable pub output : List ℕ
output = bytes_of "tunnels 1\nPCIe from 0:2 paths 2 closed\nPCIe Down hops 2\n0 2 8 1 8\n1 1 8 2 8\nPCIe Up hops 2\n1 2 8 1 8\n0 1 8 2 8\n"

pub survey_read : survey_of input ≡ value example
unfolding input example bytes_of bind digit_of after_prefix after_plus value_of are_digits number_of hex_number decimal_number is_space is_line_feed is_high before place_from on_first pieces filled tokens ended lines is_comment with_token register_of four_tokens five_tokens by_tokens meaning group_of words insert sort is_marker same plain_marker adapter_by adapter_marker with_number device_marker marker_by marker_of item_by item_of to_usb4 to_regs to_adapter to_paths step_of in_dump item_step marker_size item_size check_by check_from items_of in_limit check_answer records_of sections_of is_usb4 is_regs path_mark next_is next_path past bit device_head adapter_head path_group device_words marker_words survey_words survey_of
survey_read = refl

-- each of the five adapters is tried
pub reported : report_of example_rows ≡ value output
unfolding output bytes_of words_by answer_of answers_of total_of pages_of report_of discover_at asked_adapter is_enabled is_protocol min_hop at path leaving or_absent needed tunnel_of or_none dma alone down_and_up of_kind discover last_of entry plain_row router_row example_rows bind present asked_device entry_in adapter_in device_in is_router router_from used_bytes depth_of upstream_route downstream_route adapter_beneath downstream_adapter is_upstream route_or upstream_route_of downstream_route_of is_lane adapter_site stand_by stand_at up_by arrive_up down_by arrive_down to_device to_router to_route leads_from leads_by leads turn_by walk_on walk_n hops_n hop_at onward made turned arrive found settled walk_from path_of tunnels_words tunnel_words tunnel_word closed closed_by last_path back_to paths_words path_words hops_words hop_words digits decimal kind_of is_tunnel is_hop type_name path_name place_of in_adapter out_adapter tunnel_line path_line hop_line line_of parts_of lines_by lines_of one tunnels_by tunnels_in total_line
reported = refl

pub worked : program_of input ≡ output
unfolding rows_in surveyed said program_of bind
worked =
    ap (λ o. said (bind (bind o (λ s. bind (read_survey s) (λ ds. load_from ours 0 ds))) report_of)) survey_read
    ∙ ap (λ o. said (bind o report_of)) read_and_load
    ∙ ap said reported
