use Rattle.std.specs.Prelude.{None, Some}
use native.Mathlib.Nat.{lt_of_le_of_lt}
use lib.Dec.{lit<}
use mathlib.Core.Path.{◌≡◌, sym, ◌∙◌}
use Rattle.util.specs.Number.{hex_number, decimal_number}
use Rattle.util.proofs.Laws.{hex_le, decimal_le}
use Rattle.register.specs.Line.{five_tokens, with_token, register_of}
use Rattle.register.proofs.five_tokens.Goals as goal

pub returns-in_default : goal.returns-in_default
unfolding five_tokens with_token
returns-in_default c = let e0 : hex_number 0xffff c.args.a.now ≡ None = sym c.parse_hex.ensures ∙ c.in_default.is in simp (e0)

pub returns-in_default-parse_decimal : goal.returns-in_default-parse_decimal
unfolding five_tokens with_token
returns-in_default-parse_decimal c = let e0 : hex_number 0xffff c.args.a.now ≡ Some c.in-Some.offset = sym c.parse_hex.ensures ∙ c.in-Some.is in
    let e1 : decimal_number 0xffff c.args.b.now ≡ None = sym c.parse_decimal.ensures ∙ c.in_default-parse_decimal.is in simp (e0, e1)

pub returns-in_default-parse_hex : goal.returns-in_default-parse_hex
unfolding five_tokens with_token
returns-in_default-parse_hex c = let e0 : hex_number 0xffff c.args.a.now ≡ Some c.in-Some.offset = sym c.parse_hex.ensures ∙ c.in-Some.is in
    let e1 : decimal_number 0xffff c.args.b.now ≡ Some c.in-Some-parse_decimal.relative = sym c.parse_decimal.ensures ∙ c.in-Some-parse_decimal.is in
    let e2 : hex_number 0xffff c.args.c.now ≡ None = sym c.parse_hex-2.ensures ∙ c.in_default-parse_hex.is in simp (e0, e1, e2)

pub returns-in_default-parse_hex-2 : goal.returns-in_default-parse_hex-2
unfolding five_tokens with_token
returns-in_default-parse_hex-2 c = let e0 : hex_number 0xffff c.args.a.now ≡ Some c.in-Some.offset = sym c.parse_hex.ensures ∙ c.in-Some.is in
    let e1 : decimal_number 0xffff c.args.b.now ≡ Some c.in-Some-parse_decimal.relative = sym c.parse_decimal.ensures ∙ c.in-Some-parse_decimal.is in
    let e2 : hex_number 0xffff c.args.c.now ≡ Some c.in-Some-parse_hex.cap = sym c.parse_hex-2.ensures ∙ c.in-Some-parse_hex.is in
    let e3 : hex_number 0xffff c.args.d.now ≡ None = sym c.parse_hex-3.ensures ∙ c.in_default-parse_hex-2.is in simp (e0, e1, e2, e3)

pub returns-in_default-parse_hex-3 : goal.returns-in_default-parse_hex-3
unfolding five_tokens with_token
returns-in_default-parse_hex-3 c = let e0 : hex_number 0xffff c.args.a.now ≡ Some c.in-Some.offset = sym c.parse_hex.ensures ∙ c.in-Some.is in
    let e1 : decimal_number 0xffff c.args.b.now ≡ Some c.in-Some-parse_decimal.relative = sym c.parse_decimal.ensures ∙ c.in-Some-parse_decimal.is in
    let e2 : hex_number 0xffff c.args.c.now ≡ Some c.in-Some-parse_hex.cap = sym c.parse_hex-2.ensures ∙ c.in-Some-parse_hex.is in
    let e3 : hex_number 0xffff c.args.d.now ≡ Some c.in-Some-parse_hex-2.vs = sym c.parse_hex-3.ensures ∙ c.in-Some-parse_hex-2.is in
    let e4 : hex_number 0xffffffff c.args.e.now ≡ None = sym c.parse_hex-4.ensures ∙ c.in_default-parse_hex-3.is in simp (e0, e1, e2, e3, e4)

pub overflow_cast-result : goal.overflow_cast-result
overflow_cast-result c = let e0 : hex_number 0xffff c.args.a.now ≡ Some c.in-Some.offset = sym c.parse_hex.ensures ∙ c.in-Some.is in record { fits = lt_of_le_of_lt (hex_le 0xffff c.args.a.now c.in-Some.offset e0) (lit< tt) }

pub overflow_cast-result-2 : goal.overflow_cast-result-2
overflow_cast-result-2 c = let e1 : decimal_number 0xffff c.args.b.now ≡ Some c.in-Some-parse_decimal.relative = sym c.parse_decimal.ensures ∙ c.in-Some-parse_decimal.is in record { fits = lt_of_le_of_lt (decimal_le 0xffff c.args.b.now c.in-Some-parse_decimal.relative e1) (lit< tt) }

pub overflow_cast-result-3 : goal.overflow_cast-result-3
overflow_cast-result-3 c = let e2 : hex_number 0xffff c.args.c.now ≡ Some c.in-Some-parse_hex.cap = sym c.parse_hex-2.ensures ∙ c.in-Some-parse_hex.is in record { fits = lt_of_le_of_lt (hex_le 0xffff c.args.c.now c.in-Some-parse_hex.cap e2) (lit< tt) }

pub overflow_cast-result-4 : goal.overflow_cast-result-4
overflow_cast-result-4 c = let e3 : hex_number 0xffff c.args.d.now ≡ Some c.in-Some-parse_hex-2.vs = sym c.parse_hex-3.ensures ∙ c.in-Some-parse_hex-2.is in record { fits = lt_of_le_of_lt (hex_le 0xffff c.args.d.now c.in-Some-parse_hex-2.vs e3) (lit< tt) }

pub overflow_cast-result-5 : goal.overflow_cast-result-5
overflow_cast-result-5 c = let e4 : hex_number 0xffffffff c.args.e.now ≡ Some c.in-Some-parse_hex-3.value = sym c.parse_hex-4.ensures ∙ c.in-Some-parse_hex-3.is in record { fits = lt_of_le_of_lt (hex_le 0xffffffff c.args.e.now c.in-Some-parse_hex-3.value e4) (lit< tt) }

pub returns : goal.returns
unfolding five_tokens with_token register_of
returns c = let e0 : hex_number 0xffff c.args.a.now ≡ Some c.in-Some.offset = sym c.parse_hex.ensures ∙ c.in-Some.is in
    let e1 : decimal_number 0xffff c.args.b.now ≡ Some c.in-Some-parse_decimal.relative = sym c.parse_decimal.ensures ∙ c.in-Some-parse_decimal.is in
    let e2 : hex_number 0xffff c.args.c.now ≡ Some c.in-Some-parse_hex.cap = sym c.parse_hex-2.ensures ∙ c.in-Some-parse_hex.is in
    let e3 : hex_number 0xffff c.args.d.now ≡ Some c.in-Some-parse_hex-2.vs = sym c.parse_hex-3.ensures ∙ c.in-Some-parse_hex-2.is in
    let e4 : hex_number 0xffffffff c.args.e.now ≡ Some c.in-Some-parse_hex-3.value = sym c.parse_hex-4.ensures ∙ c.in-Some-parse_hex-3.is in simp (e0, e1, e2, e3, e4)
