-- Document 01, module 5: path entries. Assumes nothing.
use Rattle.std.specs.Prelude.{ℕ, ◌*◌, ◌/◌, ◌%◌, Bool, true, false, cond, ◌&&◌, List, [], ◌∷◌, leb, eqb, Option, None, Some, Err, Ok, Result}
use Rattle.refusal.specs.Outcome.{Outcome, value, bind}
use Rattle.refusal.specs.Refusal.{refusal_of}
use Rattle.refusal.specs.declared.Site.{Site}
use Rattle.refusal.specs.declared.Fault.TheVariants.{NoField}
use Rattle.util.specs.Text.{bytes_of}
use Rattle.usb4.specs.Numbers.{type_number}
use Rattle.register.specs.declared.Register.{Register}
use Rattle.layout.specs.Description.{Description}
use Rattle.survey.specs.Devices.{Adapter}
use Rattle.named.specs.Named.{path_space, named, wanted_field, wanted_flag}
use Rattle.adapter.specs.Adapter.{kind_of, min_hop}
use Rattle.adapter.specs.declared.EntryOut.{EntryOut}
use Rattle.refusal.specs.declared.FieldError.{FieldError}

-- a valid path entry: its HopID, and where it leads
pub record PathEntry : Type 0 where
  pub in_hop : ℕ
  pub out_adapter : ℕ
  pub out_hop : ℕ

-- Output HopID, then Output Adapter, of an entry whose Valid is set
unfoldable pub entry_in : Site → Register → Option Description → Bool → Outcome (Option PathEntry)
entry_in s r None valid = value None
entry_in s r (Some d) false = value None
entry_in s r (Some d) true =
    bind (wanted_field s (record { register = r; description = d }) (bytes_of "Output HopID"))
    (λ hop. bind (wanted_field s (record { register = r; description = d }) (bytes_of "Output Adapter"))
    (λ out. value (Some (record { in_hop = r.offset / 2; out_adapter = out % 256; out_hop = hop % 65536 }))))

-- `PathEntry::new`: 6 where Valid cannot be read
unfoldable pub entry_of : Site → Register → Option Description → Outcome (Option PathEntry)
entry_of s r d = bind (wanted_flag s r d (bytes_of "Valid")) (λ valid. entry_in s r d valid)

unfoldable pub with_entry : Option PathEntry → List PathEntry → List PathEntry
with_entry None es = es
with_entry (Some e) es = e ∷ es

-- the entries of path registers from a least HopID on: even offsets from 2 × that on, the others are never looked at
unfoldable pub entries_from : List Description → Site → ℕ → ℕ → List Register → Outcome (List PathEntry)
entries_from ds s k least [] = value []
entries_from ds s k least (r ∷ rs) =
    cond (leb (2 * least) r.offset && eqb (r.offset % 2) 0)
    (bind (entry_of s r (named ds path_space k r)) (λ e. bind (entries_from ds s k least rs) (λ es. value (with_entry e es))))
    (entries_from ds s k least rs)

unfoldable pub entries_by : List Description → Site → ℕ → List Register → Option ℕ → Outcome (List PathEntry)
entries_by ds s k rs None = value []
entries_by ds s k rs (Some least) = entries_from ds s k least rs

-- `read_paths` of a path dump that was read; a kind without a least HopID has no entries
unfoldable pub entries_of : List Description → Site → Adapter → Outcome (List PathEntry)
entries_of ds s a = entries_by ds s (type_number (kind_of a)) a.entries (min_hop (kind_of a))

-- where an entry leads
abbrev pub entry_out : ℕ → ℕ → EntryOut
entry_out out hop = record { out_adapter = out; out_hop = hop }

-- what `entry_of` answers, for a register at an offset
unfoldable pub entry_outcome : Site → ℕ → Result (Option EntryOut) FieldError → Outcome (Option PathEntry)
entry_outcome s o (Ok (Some e)) = value (Some (record { in_hop = o / 2; out_adapter = e.out_adapter; out_hop = e.out_hop }))
entry_outcome s o (Ok None) = value None
entry_outcome s o (Err e) = refusal_of (NoField s)
