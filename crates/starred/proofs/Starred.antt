-- Every starred line holds. Assumes nothing.
use mathlib.Core.Path.{refl}
use Rattle.scan.specs.Scan.{is_space, is_high, before, place_from, on_first, pieces, filled, tokens}
use Rattle.util.specs.Bits.{bits_of}
use Rattle.util.specs.Text.{bytes_of}
use Rattle.util.specs.Number.{digit_of, after_prefix, after_plus, value_of, are_digits, number_of, hex_number, decimal_number}
use Rattle.register.specs.Line.{is_comment, with_token, register_of, four_tokens, five_tokens, by_tokens, meaning, record_of, line_answer}
use Rattle.route.specs.Route.{used_bytes, depth_of, upstream_route}
use Rattle.starred.specs.Table.{Holds, All, starred}
use Rattle.starred.proofs.Walks.{apart_row, ring_row}
use Rattle.starred.proofs.Tunnels.{ring_discovered, host_discovered}

pub starred_hold : All starred
unfolding All Holds starred bytes_of bits_of is_space is_high before place_from on_first pieces filled tokens digit_of after_prefix after_plus value_of are_digits number_of hex_number decimal_number is_comment with_token register_of four_tokens five_tokens by_tokens meaning record_of line_answer used_bytes depth_of upstream_route
starred_hold = (refl, (refl, (refl, (refl, (refl, (refl, (refl, (refl, (refl, (refl, (refl, ((refl, refl), (apart_row, (ring_row, (ring_discovered, (host_discovered, tt))))))))))))))))
