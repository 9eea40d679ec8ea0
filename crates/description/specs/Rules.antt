-- Document 01, "Words" and refusal 3: when a description group breaks the rules. Assumes nothing.
use Rattle.std.specs.Prelude.{ℕ, zero, suc, ◌+◌, ◌*◌, Bool, true, false, cond, ◌&&◌, ◌||◌, List, [], ◌∷◌, ltb, leb, eqb, length}
use Rattle.refusal.specs.Outcome.{Outcome, refused, value, bind}
use Rattle.layout.specs.Layout.{bits, word, kind, space, has_cap, has_vs, name_len, cap_id, vs_id, listed, kinds, start, end, field_len, short_len, name_words, name_at, field_at, short_at, byte_at, size_of, heads}
use Rattle.layout.specs.Description.{Description, descriptions_of}

-- a list of descriptions holds at most 16,384 words
abbrev pub max_words : ℕ
max_words = 16384

-- byte j of a name of n bytes is 32 to 126, and of its padding 0
unfoldable pub good_byte : ℕ → ℕ → ℕ → Bool
good_byte n j b = cond (ltb j n) (leb 32 b && leb b 126) (eqb b 0)

-- k bytes from byte j on of a name of n bytes at place p
unfoldable pub good_bytes : List ℕ → ℕ → ℕ → ℕ → ℕ → Bool
good_bytes t p n j zero = true
good_bytes t p n j (suc k) = good_byte n j (byte_at t p j) && good_bytes t p n (j + 1) k

-- a name of n bytes, zero padded
unfoldable pub good_name : List ℕ → ℕ → ℕ → Bool
good_name t p n = good_bytes t p n 0 (4 * name_words n)

-- what is not had is 0
unfoldable pub zero_unless : ℕ → ℕ → Bool
zero_unless bit v = eqb bit 1 || eqb v 0

-- a register's three words: space 0 to 2, name length 1 to 64; ids 0 where not had; unnamed bits of the type list 0, its kinds all 0 if it is not present
unfoldable pub good_head : ℕ → ℕ → ℕ → Bool
good_head w ids list =
    ltb (space w) 3 && leb 1 (name_len w) && leb (name_len w) 64
    && zero_unless (has_cap w) (cap_id ids) && zero_unless (has_vs w) (vs_id ids)
    && eqb (bits list 13 31) 0 && zero_unless (listed list) (kinds list)

-- a field's word: unnamed bits 0, end not below start, name length 1 to 64, short name length 0 to 64
unfoldable pub good_range : ℕ → Bool
good_range w =
    eqb (bits w 16 17) 0 && leb (start w) (end w)
    && leb 1 (field_len w) && leb (field_len w) 64 && leb (short_len w) 64

-- the group ends within the list
unfoldable pub whole : List ℕ → ℕ → Bool
whole t i = leb (i + size_of (word t i)) (length t)

unfoldable pub good_register : List ℕ → ℕ → Bool
good_register t i =
    good_head (word t i) (word t (i + 1)) (word t (i + 2)) && whole t i && good_name t (name_at i) (name_len (word t i))

unfoldable pub good_field : List ℕ → ℕ → Bool
good_field t i =
    good_range (word t i) && whole t i
    && good_name t (field_at i) (field_len (word t i)) && good_name t (short_at (word t i) i) (short_len (word t i))

-- a field has a register before it where it is not the first group: the first group is then a register, or breaks the rules itself
unfoldable pub good_group : List ℕ → ℕ → Bool
good_group t i =
    cond (eqb (kind (word t i)) 1) (good_register t i)
    (cond (eqb (kind (word t i)) 2) (ltb 0 i && good_field t i) false)

-- 3 with the first of the places that is not good
unfoldable pub first_bad : (ℕ → Bool) → List ℕ → Outcome Unit
first_bad good [] = value tt
first_bad good (p ∷ ps) = cond (good p) (first_bad good ps) (refused 3 (p ∷ []))

-- 3 with 16,384 if the list is too long, else with the head of the first group that breaks the rules
unfoldable pub check_of : List ℕ → Outcome Unit
check_of t = cond (ltb max_words (length t)) (refused 3 (max_words ∷ [])) (first_bad (good_group t) (heads t))

-- the descriptions of a list that is well formed
unfoldable pub read_descriptions : List ℕ → Outcome (List Description)
read_descriptions t = bind (check_of t) (λ ok. value (descriptions_of t))
