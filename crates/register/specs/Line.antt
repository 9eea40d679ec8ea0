-- Document 01, module 3: what a line of a dump is, as `Register::parse_debugfs` reads it. Assumes nothing.
use Rattle.std.specs.Prelude.{ℕ, Bool, cond, List, [], ◌∷◌, eqb, ltb, length, get_or, Option, None, Some, Err, Ok, Result}
use Rattle.refusal.specs.Outcome.{Outcome, refused, value}
use Rattle.util.specs.Number.{hex_number, decimal_number}
use Rattle.scan.specs.Scan.{tokens, is_high, place_from}
use Rattle.register.specs.declared.Register.{Register}
use Rattle.register.specs.declared.Skip.TheVariants.{Comment, Few, Bad}
use Rattle.register.specs.declared.Skip.{Skip}

abbrev pub max16 : ℕ
max16 = 0xffff

abbrev pub max32 : ℕ
max32 = 0xffffffff

-- a line that begins with `#`
unfoldable pub is_comment : List ℕ → Bool
is_comment s = eqb (get_or s 0 0) 35

-- token k as a number that the rest goes on with; the first that is none ends the line
unfoldable pub with_token : ℕ → Option ℕ → (ℕ → (Result Register Skip)) → Result Register Skip
with_token k None rest = Err (Bad k)
with_token k (Some v) rest = rest v

unfoldable pub register_of : ℕ → ℕ → ℕ → ℕ → ℕ → Register
register_of o r c v x = record { offset = o; relative_offset = r; cap_id = c; vs_cap_id = v; value = x }

-- four tokens: offset, relative offset, one that is ignored, value
unfoldable pub four_tokens : List ℕ → List ℕ → List ℕ → Result Register Skip
four_tokens a b d =
    with_token 0 (hex_number max16 a)
    (λ offset. with_token 1 (decimal_number max16 b)
    (λ relative. with_token 3 (hex_number max32 d)
    (λ v. Ok (register_of offset relative 0 0 v))))

-- five or more: offset, relative offset, cap id, vs id, value, the rest ignored
unfoldable pub five_tokens : List ℕ → List ℕ → List ℕ → List ℕ → List ℕ → Result Register Skip
five_tokens a b c d e =
    with_token 0 (hex_number max16 a)
    (λ offset. with_token 1 (decimal_number max16 b)
    (λ relative. with_token 2 (hex_number max16 c)
    (λ cap. with_token 3 (hex_number max16 d)
    (λ vs. with_token 4 (hex_number max32 e)
    (λ v. Ok (register_of offset relative cap vs v))))))

-- by the tokens of a line that is no comment
unfoldable pub by_tokens : List (List ℕ) → Result Register Skip
by_tokens ts =
    cond (ltb (length ts) 4) (Err Few)
    (cond (eqb (length ts) 4) (four_tokens (get_or ts 0 []) (get_or ts 1 []) (get_or ts 3 []))
    (five_tokens (get_or ts 0 []) (get_or ts 1 []) (get_or ts 2 []) (get_or ts 3 []) (get_or ts 4 [])))

unfoldable pub meaning : List ℕ → Result Register Skip
meaning s = cond (is_comment s) (Err Comment) (by_tokens (tokens s))

unfoldable pub record_of : Result Register Skip → Option Register
record_of (Ok r) = Some r
record_of (Err w) = None

-- a byte above 127 is 1, with its place; else the record, or none
unfoldable pub line_answer : List ℕ → Outcome (Option Register)
line_answer s = cond (ltb (place_from is_high s 0) (length s)) (refused 1 (place_from is_high s 0 ∷ [])) (value (record_of (meaning s)))
