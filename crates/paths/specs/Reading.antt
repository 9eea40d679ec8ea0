-- Where the fields of a path entry stand, by the description that names its register, and what an entry says by them. Assumes nothing.
use Rattle.std.specs.Prelude.{ℕ, ◌%◌, cond, List, eqb, Option, None, Some, Err, Ok, Result}
use Rattle.refusal.specs.Outcome.{Outcome, refused, value}
use Rattle.util.specs.Text.{bytes_of}
use Rattle.layout.specs.Layout.{bits, low}
use Rattle.layout.specs.Description.{Description}
use Rattle.naming.specs.Naming.{naming}
use Rattle.fields.specs.Names.{find_field, find_flag}
use Rattle.metadata.specs.Calls.{value_in}
use Rattle.named.specs.Named.{path_space}
use Rattle.paths.specs.declared.EntryFields.{EntryFields}
use Rattle.adapter.specs.declared.EntryOut.{EntryOut}
use Rattle.adapter.specs.Paths.{entry_out}
use Rattle.refusal.specs.declared.FieldError.{FieldError}
use Rattle.refusal.specs.declared.FieldError.TheVariants as field

-- a nameless register has no fields
unfoldable pub entry_fields : Option Description → EntryFields
entry_fields None = record { valid = None; hop = None; out = None }
entry_fields (Some d) = record {
  valid = find_flag (bytes_of "Valid") d.fields;
  hop = find_field (bytes_of "Output HopID") d.fields;
  out = find_field (bytes_of "Output Adapter") d.fields;
}

-- the fields of path registers with these ids, of an adapter whose kind has the number k
unfoldable pub fields_for : List Description → ℕ → ℕ → ℕ → EntryFields
fields_for ds k ids vs = entry_fields (naming (record { space = path_space; kind = k; offset = bits ids 16 31; cap = low ids 15; vs = vs }) ds)

-- where an entry with this Output HopID and Output Adapter leads
unfoldable pub leads : Outcome ℕ → Outcome ℕ → Result (Option EntryOut) FieldError
leads (value hop) (value out) = Ok (Some (entry_out (out % 256) (hop % 65536)))
leads (value hop) (refused n vs) = Err field.NoField
leads (refused n vs) out = Err field.NoField

-- Valid first: where it is clear the other fields aren't asked for
unfoldable pub if_valid : Outcome ℕ → Result (Option EntryOut) FieldError → Result (Option EntryOut) FieldError
if_valid (refused n vs) e = Err field.NoField
if_valid (value v) e = cond (eqb v 0) (Ok None) e

-- what a register with this value says
unfoldable pub read_by : EntryFields → ℕ → Result (Option EntryOut) FieldError
read_by f v = if_valid (value_in v f.valid) (leads (value_in v f.hop) (value_in v f.out))
