-- For the contracts of private functions only. No promise to a caller rests on these. Assumes nothing.
use Rattle.std.specs.Prelude.{ℕ, ◌+◌, ◌*◌, ◌%◌, ◌≤◌, ◌<◌, ◌≡◌, Bool, true, ◌&&◌, List, [], ◌∷◌, map, leb, eqb, length, Err, None, Ok, Result, Some, Option}
use Rattle.refusal.specs.Outcome.{Outcome, value, bind}
use Rattle.refusal.specs.declared.Site.{Site}
use Rattle.refusal.specs.declared.FieldError.{FieldError}
use Rattle.layout.specs.Layout.{word, kind}
use Rattle.layout.specs.Description.{Description}
use Rattle.register.specs.declared.Register.{Register}
use Rattle.listing.specs.After.{after}
use Rattle.survey.specs.Devices.{Adapter}
use Rattle.named.specs.Named.{Named, path_space, named}
use Rattle.adapter.specs.Adapter.{AdapterRow}
use Rattle.adapter.specs.Paths.{PathEntry}
use Rattle.paths.specs.Reading.{entry_fields, fields_for}
use Rattle.paths.specs.declared.EntryFields.{EntryFields}
use Rattle.tables.specs.Rows.{EntryRow, DeviceRow, Rows}
use Rattle.load.specs.Loading.{owned, fitting}
use Rattle.load.specs.declared.Kept.{Kept}

-- a largest HopID has sixteen bits
unfoldable pub HopFits : Result (Option ℕ) FieldError → Type 0
HopFits (Ok (Some h)) = h ≤ 65535
HopFits (Ok None) = 0 ≤ 0
HopFits (Err e) = 0 ≤ 0

-- rows that are put
abbrev pub one_entry : EntryRow → Rows
one_entry e = record { entries = e ∷ []; adapters = []; devices = [] }

abbrev pub one_adapter : AdapterRow → Rows
one_adapter a = record { entries = []; adapters = a ∷ []; devices = [] }

abbrev pub one_device : DeviceRow → Rows
one_device d = record { entries = []; adapters = []; devices = d ∷ [] }

-- the path entries of an adapter as rows
abbrev pub entry_rows : Site → Outcome (List PathEntry) → Outcome Rows
entry_rows s o = bind o (λ es. value (record { entries = map (owned s.place s.adapter) es; adapters = []; devices = [] }))

-- the rows x are no more than the words of t before place i give, and t is no longer than a survey
pub record Room (t : List ℕ) (i : ℕ) (x : Rows) : Type 0 where
  pub short : length t ≤ 16384
  pub within : i ≤ length t
  pub entries : 4 * length x.entries ≤ i
  pub adapters : length x.adapters ≤ i
  pub devices : 4 * length x.devices ≤ i

-- a path register that is looked at
abbrev pub looked_at : ℕ → Register → Bool
looked_at least r = leb (2 * least) r.offset && eqb (r.offset % 2) 0

-- the fields of a register, where it is looked at
unfoldable pub FieldsAt : List Description → ℕ → ℕ → Register → EntryFields → Type 0
FieldsAt ds k least r f = looked_at least r ≡ true → f ≡ entry_fields (named ds path_space k r)

-- fields that are kept are those of the ids beside them
unfoldable pub KeptFor : List Description → ℕ → Kept → Type 0
KeptFor ds k x = x.fields ≡ fields_for ds k x.ids x.vs

-- from place i of the words t on, past what gave the rows x, the adapters and devices are those from next on
pub record Passed (t : List ℕ) (i : ℕ) (x : Rows) (next : ℕ) : Type 0 where
  pub room : Room t next x
  pub forward : i ≤ next
  pub adapters : (after t i).adapters ≡ (after t next).adapters
  pub devices : (after t i).devices ≡ (after t next).devices

-- next is where the next device stands, or the end
pub record ToDevice (t : List ℕ) (i : ℕ) (x : Rows) (next : ℕ) : Type 0 where
  pub room : Room t next x
  pub forward : i ≤ next
  pub devices : (after t i).devices ≡ (after t next).devices
  pub head : next < length t → (kind (word t next) ≡ 3) × (next + 4 ≤ length t)

-- `fits` by ROUTER_CS_1
unfoldable pub fits_by : ℕ → List Adapter → Option Named → Outcome Unit
fits_by p [] n = value tt
fits_by p (a ∷ rest) n = fitting p (a ∷ rest) n
