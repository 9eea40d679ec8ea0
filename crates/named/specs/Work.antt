-- For contracts of private functions: which relative offsets a name can have. Assumes nothing.
use Rattle.std.specs.Prelude.{ℕ, ◌≤◌, ◌<◌, ◌≡◌, true, List, None}
use Rattle.layout.specs.Layout.{word, offset}
use Rattle.layout.specs.Description.{descriptions_of}
use Rattle.naming.specs.Naming.{naming}
use Rattle.naming.specs.declared.Sought.{Sought}
use Rattle.fields.specs.Names.{name_is}
use Rattle.named.specs.Named.{having_name}
use Rattle.named.specs.declared.Offsets.{Offsets}

-- a register with another offset does not have the name
pub record Spans (t name : List ℕ) (o : Offsets) : Type 0 where
  pub below : (q : Sought) → q.offset < o.least → having_name name (naming q (descriptions_of t)) ≡ None
  pub above : (q : Sought) → o.most < q.offset → having_name name (naming q (descriptions_of t)) ≡ None

-- no narrower, and with an offset in it
pub record Widened (o : Offsets) (at : ℕ) (r : Offsets) : Type 0 where
  pub least : r.least ≤ o.least
  pub most : o.most ≤ r.most
  pub from : r.least ≤ at
  pub to : at ≤ r.most

-- no narrower, and with the group's offset in it where it has the name
pub record Counted (t name : List ℕ) (i : ℕ) (o r : Offsets) : Type 0 where
  pub least : r.least ≤ o.least
  pub most : o.most ≤ r.most
  pub inside : name_is t i name ≡ true → (r.least ≤ offset (word t i)) × (offset (word t i) ≤ r.most)
