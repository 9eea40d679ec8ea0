-- The eight words in which an exported call says its answer. Assumes nothing.
use Rattle.std.specs.Prelude.{ℕ, zero, suc, Bool, cond, ◌&&◌, List, [], ◌∷◌, eqb, get_or, Option, None, Some}
use Rattle.refusal.specs.Outcome.{Outcome, refused, value, bind}
use Rattle.util.specs.Number.{hex_number}
use Rattle.register.specs.Line.{max16, max32}
use Rattle.register.specs.declared.Register.{Register}

abbrev pub answer_size : ℕ
answer_size = 8

-- the first n words, 0 past the last
unfoldable pub padded : ℕ → List ℕ → List ℕ
padded zero ws = []
padded (suc n) [] = 0 ∷ padded n []
padded (suc n) (w ∷ ws) = w ∷ padded n ws

-- a refusal's number and then its values; or 0, 1 and the result; or 0 and 0 for none or absent; the rest is 0
unfoldable pub said : Outcome (Option (List ℕ)) → List ℕ
said (refused n vs) = padded answer_size (n ∷ vs)
said (value None) = padded answer_size (0 ∷ 0 ∷ [])
said (value (Some ws)) = padded answer_size (0 ∷ 1 ∷ ws)

-- whether there is a result: 0, then 1
unfoldable pub answered : List ℕ → Bool
answered ws = eqb (get_or ws 0 0) 0 && eqb (get_or ws 1 0) 1

-- a result that is there unless it is refused, as words
unfoldable pub always : {A : Type 0} → (A → List ℕ) → Outcome A → Outcome (Option (List ℕ))
always f o = bind o (λ a. value (Some (f a)))

-- a result that may be none or absent, as words
unfoldable pub words_in : {A : Type 0} → (A → List ℕ) → Option A → Option (List ℕ)
words_in f None = None
words_in f (Some a) = Some (f a)

unfoldable pub perhaps : {A : Type 0} → (A → List ℕ) → Outcome (Option A) → Outcome (Option (List ℕ))
perhaps f o = bind o (λ a. value (words_in f a))

-- a number; and a result that says no more than that it isn't refused
unfoldable pub one : ℕ → List ℕ
one n = n ∷ []

unfoldable pub bare : Unit {0} → List ℕ
bare u = []

-- offset, relative offset, cap id, vs id, value
unfoldable pub register_words : Register → List ℕ
register_words r = r.offset ∷ r.relative_offset ∷ r.cap_id ∷ r.vs_cap_id ∷ r.value ∷ []

abbrev pub max64 : ℕ
max64 = 0xffffffffffffffff

-- a hex number of 16, 32 or 64 bits; none for any other width
unfoldable pub hex_of_bits : ℕ → List ℕ → Option ℕ
hex_of_bits bits s =
    cond (eqb bits 16) (hex_number max16 s)
    (cond (eqb bits 32) (hex_number max32 s)
    (cond (eqb bits 64) (hex_number max64 s) None))
