-- Document 01, "Words": the descriptions that a list of words is. Assumes nothing.
use Rattle.std.specs.Prelude.{ℕ, ◌+◌, cond, List, [], ◌∷◌, map, eqb, length, Option, None, Some}
use Rattle.layout.specs.Layout.{word, kind, space, has_cap, has_vs, name_len, offset, cap_id, vs_id, listed, kinds, start, end, field_len, short_len, name_at, field_at, short_at, name_bytes, size_of, heads_from, registers}

-- a field: bits start to end, its name, and its short name, empty for none
pub record Field : Type 0 where
  pub start : ℕ
  pub end : ℕ
  pub name : List ℕ
  pub short : List ℕ

-- a register: where its group stands, its space and relative offset, the ids that it has, its type list if it has one (bit k for kind k), its name and its fields
pub record Description : Type 0 where
  pub place : ℕ
  pub space : ℕ
  pub offset : ℕ
  pub cap : Option ℕ
  pub vs : Option ℕ
  pub types : Option ℕ
  pub name : List ℕ
  pub fields : List Field

-- what is had where its bit is set
unfoldable pub had : ℕ → ℕ → Option ℕ
had bit v = cond (eqb bit 1) (Some v) None

unfoldable pub field_of : List ℕ → ℕ → Field
field_of t i = record {
  start = start (word t i);
  end = end (word t i);
  name = name_bytes t (field_at i) (field_len (word t i));
  short = name_bytes t (short_at (word t i) i) (short_len (word t i));
}

-- the fields at the front of a list of head places, up to the next group that is none
unfoldable pub fields_of : List ℕ → List ℕ → List Field
fields_of t [] = []
fields_of t (p ∷ ps) = cond (eqb (kind (word t p)) 2) (field_of t p ∷ fields_of t ps) []

-- a field belongs to the register before it: those behind the group at i
unfoldable pub fields_behind : List ℕ → ℕ → List Field
fields_behind t i = fields_of t (heads_from size_of t (i + size_of (word t i)) (length t))

-- the register group at i
unfoldable pub described : List ℕ → ℕ → Description
described t i = record {
  place = i;
  space = space (word t i);
  offset = offset (word t i);
  cap = had (has_cap (word t i)) (cap_id (word t (i + 1)));
  vs = had (has_vs (word t i)) (vs_id (word t (i + 1)));
  types = had (listed (word t (i + 2))) (kinds (word t (i + 2)));
  name = name_bytes t (name_at i) (name_len (word t i));
  fields = fields_behind t i;
}

-- the descriptions that the words are, one for each register group, in order
unfoldable pub descriptions_of : List ℕ → List Description
descriptions_of t = map (described t) (registers t)
