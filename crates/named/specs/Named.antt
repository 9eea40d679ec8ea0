-- Registers of a survey with the descriptions that name them; fields and flags that are wanted of them. Assumes nothing.
use Rattle.std.specs.Prelude.{ℕ, ◌+◌, ◌≤◌, Bool, cond, List, [], ◌∷◌, Option, None, Some}
use Rattle.refusal.specs.Outcome.{Outcome, refused, value}
use Rattle.refusal.specs.Refusal.{at}
use Rattle.refusal.specs.declared.Site.{Site}
use Rattle.usb4.specs.Numbers.{type_number}
use Rattle.layout.specs.Description.{Description, described, descriptions_of}
use Rattle.naming.specs.Naming.{naming}
use Rattle.fields.specs.Names.{alike, find_field}
use Rattle.metadata.specs.Calls.{value_in, flag_in}
use Rattle.register.specs.declared.Register.{Register}
use Rattle.listing.specs.After.{after, register_at}
use Rattle.named.specs.declared.NamedAt.{NamedAt}
use Rattle.named.specs.declared.Registers.{Registers}

-- router, adapter and path space, as description words number them
abbrev pub router_space : ℕ
router_space = 0

abbrev pub adapter_space : ℕ
adapter_space = 1

abbrev pub path_space : ℕ
path_space = 2

-- the description that names a register; k is the adapter's kind by its number, and plays no part in router space
unfoldable pub named : List Description → ℕ → ℕ → Register → Option Description
named ds space k r = naming (record { space = space; kind = k; offset = r.relative_offset; cap = r.cap_id; vs = r.vs_cap_id }) ds

-- a register and its description
pub record Named : Type 0 where
  pub register : Register
  pub description : Description

unfoldable pub or_else : {A : Type 0} → Option A → Option A → Option A
or_else None b = b
or_else (Some a) b = Some a

-- a description, where it has the name
unfoldable pub having_name : List ℕ → Option Description → Option Description
having_name name None = None
having_name name (Some d) = cond (alike d.name name) (Some d) None

unfoldable pub with_register : Register → Option Description → Option Named
with_register r None = None
with_register r (Some d) = Some (record { register = r; description = d })

-- `register_by_name`: the first register that has the name
unfoldable pub by_name : List Description → ℕ → ℕ → List ℕ → List Register → Option Named
by_name ds space k name [] = None
by_name ds space k name (r ∷ rs) = or_else (with_register r (having_name name (named ds space k r))) (by_name ds space k name rs)

-- a refusal that comes alone, with device place and adapter number
unfoldable pub sited : {A : Type 0} → Site → Outcome A → Outcome A
sited s (refused n vs) = refused n (at s)
sited s (value a) = value a

-- a field that is wanted of a named register: 6 where it lacks it
unfoldable pub wanted_field : Site → Named → List ℕ → Outcome ℕ
wanted_field s n name = sited s (value_in n.register.value (find_field name n.description.fields))

-- a flag: 6 where the register is nameless, lacks it, or it isn't one bit
unfoldable pub wanted_flag : Site → Register → Option Description → List ℕ → Outcome Bool
wanted_flag s r d name = sited s (flag_in r.value name d)

-- what `by_name` answers: the register at a place of the survey, and the description at a place of the descriptions; which place, of several that read the same, is free
unfoldable pub named_at : List ℕ → List ℕ → Option NamedAt → Option Named
named_at t s (Some n) = Some (record { register = register_at s n.register; description = described t n.group })
named_at t s None = None

abbrev pub named_in : ℕ → ℕ → Option NamedAt
named_in i g = Some (record { register = i; group = g })

-- the register's four words are there
unfoldable pub Within : ℕ → Option NamedAt → Type 0
Within n (Some f) = f.register + 4 ≤ n
Within n None = 0 ≤ n

-- what a group found by `naming` stands for
unfoldable pub found_named : List ℕ → Option ℕ → Option Description
found_named t (Some g) = Some (described t g)
found_named t None = None

-- the registers of an adapter: those from a place of the survey on, before the next head
abbrev pub registers_in : Registers → List Register
registers_in r = (after r.survey.now r.from).registers

-- the first of them that has the name, by the adapter's kind
abbrev pub register_named : Registers → List ℕ → Option Named
register_named r name = by_name (descriptions_of r.descriptions.now) adapter_space (type_number r.kind) name (registers_in r)

-- the register and the description at two places
abbrev pub at_places : Registers → NamedAt → Named
at_places r n = record { register = register_at r.survey.now n.register; description = described r.descriptions.now n.group }

-- a field and a flag of a register as its description has them
abbrev pub read_field : Named → List ℕ → Outcome ℕ
read_field n name = value_in n.register.value (find_field name n.description.fields)

abbrev pub read_flag : Named → List ℕ → Outcome Bool
read_flag n name = flag_in n.register.value name (Some n.description)
