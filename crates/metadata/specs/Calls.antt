-- What the calls on a list of description words answer: 3 first, then module 4. Assumes nothing.
use Rattle.std.specs.Prelude.{ℕ, Bool, cond, not, List, [], ◌∷◌, eqb, length, take, drop, Option, None, Some}
use Rattle.refusal.specs.Outcome.{Outcome, refused, value, bind}
use Rattle.util.specs.Bits.{bits_of}
use Rattle.layout.specs.Layout.{name_words, name_at}
use Rattle.layout.specs.Description.{Description}
use Rattle.description.specs.Rules.{read_descriptions}
use Rattle.naming.specs.Naming.{naming, place_of}
use Rattle.fields.specs.Names.{find_field, find_flag}
use Rattle.naming.specs.declared.Sought.{Sought}
use Rattle.fields.specs.declared.BitField.{BitField}

-- the place of the group that names a register, or none where it is nameless
unfoldable pub describe_answer : List ℕ → Sought → Outcome (Option ℕ)
describe_answer t q = bind (read_descriptions t) (λ ds. value (place_of (naming q ds)))

-- the description whose group has its head at the place; a place inside a group is none's
unfoldable pub at : ℕ → List Description → Option Description
at p [] = None
at p (d ∷ ds) = cond (eqb d.place p) (Some d) (at p ds)

-- the words of its name: a part of the list, empty where there is none
unfoldable pub name_words_of : List ℕ → Option Description → List ℕ
name_words_of t None = []
name_words_of t (Some d) = take (name_words (length d.name)) (drop (name_at d.place) t)

unfoldable pub unless_refused : List ℕ → ℕ → Outcome (List Description) → List ℕ
unless_refused t p (refused n vs) = []
unless_refused t p (value ds) = name_words_of t (at p ds)

unfoldable pub name_answer : List ℕ → ℕ → List ℕ
name_answer t p = unless_refused t p (read_descriptions t)

-- a field's value: bits start to end; 6 alone where it is missing
unfoldable pub value_in : ℕ → Option BitField → Outcome ℕ
value_in v None = refused 6 []
value_in v (Some f) = value (bits_of v f.start f.end)

-- 6 alone where no register group stands there
unfoldable pub field_in : ℕ → List ℕ → Option Description → Outcome ℕ
field_in v name None = refused 6 []
field_in v name (Some d) = value_in v (find_field name d.fields)

-- a flag that is wanted of a register: 6 where it is nameless, lacks it or it isn't one bit; else whether its bit is set
unfoldable pub is_set : Outcome ℕ → Outcome Bool
is_set o = bind o (λ v. value (not (eqb v 0)))

unfoldable pub flag_in : ℕ → List ℕ → Option Description → Outcome Bool
flag_in v name None = refused 6 []
flag_in v name (Some d) = is_set (value_in v (find_flag name d.fields))

unfoldable pub field_answer : List ℕ → ℕ → ℕ → List ℕ → Outcome ℕ
field_answer t p v name = bind (read_descriptions t) (λ ds. field_in v name (at p ds))
