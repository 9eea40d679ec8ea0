-- Document 01, module 4: names, and fields by their names. Assumes nothing.
use Rattle.std.specs.Prelude.{Option, None, Some, ℕ, ◌+◌, Bool, true, false, cond, ◌&&◌, ◌||◌, List, [], ◌∷◌, ltb, leb, eqb, length}
use Rattle.layout.specs.Layout.{is_register}
use Rattle.layout.specs.Description.{Field, described}
use Rattle.fields.specs.declared.BitField.{BitField}

-- A to Z as a to z
unfoldable pub lower : ℕ → ℕ
lower b = cond (leb 65 b && leb b 90) (b + 32) b

-- names match without regard to case
unfoldable pub alike : List ℕ → List ℕ → Bool
alike [] [] = true
alike [] (b ∷ ys) = false
alike (a ∷ xs) [] = false
alike (a ∷ xs) (b ∷ ys) = eqb (lower a) (lower b) && alike xs ys

-- the register group at i has the name; a word of a register's kind is taken as its head
unfoldable pub name_is : List ℕ → ℕ → List ℕ → Bool
name_is t i name = is_register t i && alike (described t i).name name

-- a field has it as its name or, where it has one, as its short name
unfoldable pub field_is : List ℕ → Field → Bool
field_is name f = alike f.name name || (ltb 0 (length f.short) && alike f.short name)

abbrev pub bit_field : ℕ → ℕ → Option BitField
bit_field s e = Some (record { start = s; end = e })

-- the first match counts: start and end of that field
unfoldable pub find_field : List ℕ → List Field → Option BitField
find_field name [] = None
find_field name (f ∷ fs) = cond (field_is name f) (bit_field f.start f.end) (find_field name fs)

-- a flag is a field of one bit
unfoldable pub one_bit : Option BitField → Option BitField
one_bit None = None
one_bit (Some f) = cond (eqb f.start f.end) (Some f) None

unfoldable pub find_flag : List ℕ → List Field → Option BitField
find_flag name fs = one_bit (find_field name fs)
