-- Document 01, "Words": where the parts of a description group stand, and where groups stand in a list. Assumes nothing.
use Rattle.std.specs.Prelude.{ℕ, zero, suc, ◌+◌, ◌-◌, ◌/◌, ◌%◌, ◌^◌, Bool, cond, List, [], ◌∷◌, ltb, eqb, length, get_or}

-- bits l to h of a word, and bits 0 to h: util's `bits_of` (proofs/Laws.antt says so)
abbrev pub bits : ℕ → ℕ → ℕ → ℕ
bits w l h = w / 2 ^ l % 2 ^ (h + 1 - l)

abbrev pub low : ℕ → ℕ → ℕ
low w h = w % 2 ^ (h + 1)

-- word i, 0 past the end
abbrev pub word : List ℕ → ℕ → ℕ
word t i = get_or t i 0

-- a head word's top four bits are its kind
abbrev pub kind : ℕ → ℕ
kind w = bits w 28 31

-- 1, register: the head word
abbrev pub space : ℕ → ℕ
space w = bits w 26 27

abbrev pub has_cap : ℕ → ℕ
has_cap w = bits w 25 25

abbrev pub has_vs : ℕ → ℕ
has_vs w = bits w 24 24

abbrev pub name_len : ℕ → ℕ
name_len w = bits w 16 23

abbrev pub offset : ℕ → ℕ
offset w = low w 15

-- then cap id × 65,536 + vs id
abbrev pub cap_id : ℕ → ℕ
cap_id ids = bits ids 16 31

abbrev pub vs_id : ℕ → ℕ
vs_id ids = low ids 15

-- then the type list, bit 12 present, bits 0-11 the kinds
abbrev pub listed : ℕ → ℕ
listed list = bits list 12 12

abbrev pub kinds : ℕ → ℕ
kinds list = low list 11

-- 2, field: the head word
abbrev pub start : ℕ → ℕ
start w = bits w 23 27

abbrev pub end : ℕ → ℕ
end w = bits w 18 22

abbrev pub field_len : ℕ → ℕ
field_len w = bits w 8 15

abbrev pub short_len : ℕ → ℕ
short_len w = low w 7

-- the words of a name of n bytes, four bytes a word
abbrev pub name_words : ℕ → ℕ
name_words n = (n + 3) / 4

-- a register's name stands after three words, a field's after one, its short name behind that
abbrev pub name_at : ℕ → ℕ
name_at i = i + 3

abbrev pub field_at : ℕ → ℕ
field_at i = i + 1

abbrev pub short_at : ℕ → ℕ → ℕ
short_at w i = i + 1 + name_words (field_len w)

-- byte j of the name that stands at place p, low first
unfoldable pub byte_at : List ℕ → ℕ → ℕ → ℕ
byte_at t p j = word t (p + j / 4) / 256 ^ (j % 4) % 256

-- k bytes of it, from byte j on
unfoldable pub bytes_from : List ℕ → ℕ → ℕ → ℕ → List ℕ
bytes_from t p j zero = []
bytes_from t p j (suc k) = byte_at t p j ∷ bytes_from t p (j + 1) k

-- the name of n bytes at place p
unfoldable pub name_bytes : List ℕ → ℕ → ℕ → List ℕ
name_bytes t p n = bytes_from t p 0 n

-- the words of the group with head w; one, where the kind is neither
unfoldable pub size_of : ℕ → ℕ
size_of w =
    cond (eqb (kind w) 1) (3 + name_words (name_len w))
    (cond (eqb (kind w) 2) (1 + name_words (field_len w) + name_words (short_len w)) 1)

-- the head places from i on, at most n of them, each group right after the one before it; a group's head word says its size
unfoldable pub heads_from : (ℕ → ℕ) → List ℕ → ℕ → ℕ → List ℕ
heads_from size t i zero = []
heads_from size t i (suc n) = cond (ltb i (length t)) (i ∷ heads_from size t (i + size (word t i)) n) []

-- the head places of the list
abbrev pub heads : List ℕ → List ℕ
heads t = heads_from size_of t 0 (length t)

-- those of a list that pass a test
unfoldable pub keep : {A : Type 0} → (A → Bool) → List A → List A
keep f [] = []
keep f (x ∷ xs) = cond (f x) (x ∷ keep f xs) (keep f xs)

-- the group at i is a register
unfoldable pub is_register : List ℕ → ℕ → Bool
is_register t i = eqb (kind (word t i)) 1

-- the head places of the register groups
unfoldable pub registers : List ℕ → List ℕ
registers t = keep (is_register t) (heads t)
