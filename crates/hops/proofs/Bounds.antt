-- What the entries of every accepted survey have room in: adapters in 8 bits, HopIDs in 16; and there are at most 4,096, each from four words. Assumes nothing.
use Prim.Native.Nat.{ℕ, suc, ◌+◌, ◌*◌, ◌%◌, ◌≤◌, ◌<◌}
use native.Mathlib.Omega.{arith}
use mathlib.Core.Path.{◌≡◌, refl, ap}
use mathlib.Core.Bool.{Bool, true, false, cond, not, ◌&&◌, ◌||◌}
use mathlib.Core.List.{List, [], ◌∷◌, ◌++◌, map}
use Rattle.std.specs.Prelude.{Option, None, Some}
use lib.Dec.{ltb, leb, eqb}
use lib.ListN.{length, length-append, length-map}
use borrow.Author.Tests.{ltb-false}
use Rattle.refusal.specs.Outcome.{Outcome, refused, value}
use Rattle.refusal.specs.declared.Site.{Site}
use Rattle.util.specs.Text.{bytes_of}
use Rattle.layout.specs.Layout.{bits, kind}
use Rattle.layout.specs.Description.{Description}
use Rattle.description.specs.Rules.{read_descriptions}
use Rattle.register.specs.declared.Register.{Register}
use Rattle.register.specs.Line.{register_of}
use Rattle.survey.specs.Words.{Group, group, cut, is_long, size_of, groups_of}
use Rattle.survey.specs.Rules.{start, size_by, first_bad, check_of, max_words}
use Rattle.survey.specs.Devices.{Adapter, Device, Gathered, register_in, with_register, with_adapter, with_device, with_group, gather, devices_of, read_survey}
use Rattle.named.specs.Named.{path_space, named, wanted_flag}
use Rattle.usb4.specs.Numbers.{type_number}
use Rattle.adapter.specs.Adapter.{adapter_site, kind_of, min_hop, parse_state, few_registers, row_of, decode_of}
use Rattle.adapter.specs.Paths.{PathEntry, entry_in, entry_of, with_entry, entries_from, entries_by, entries_of}
use Rattle.tables.specs.Rows.{EntryRow, Rows, joined}
use Rattle.load.specs.Loading.{missing, and_then, owned, own_rows, load_adapter, load_adapters, device_rows, fits, no_registers, load_device, load_from, loaded}
use Rattle.load.proofs.Order.{Holds, holds_value, holds_refused, holds_bind, holds_map, holds_any, holds_fault, holds_cond}

-- ---- devices of survey words

-- path registers with offsets of 16 bits
abbrev Offsets : List Register → Type 0
Offsets [] = 0 ≤ 0
Offsets (r ∷ rs) = (r.offset < 65536) × Offsets rs

-- adapters with numbers of 8 bits
abbrev Numbers : List Adapter → Type 0
Numbers [] = 0 ≤ 0
Numbers (a ∷ xs) = (a.number < 256) × Offsets a.entries × Numbers xs

abbrev AllNumbers : List Device → Type 0
AllNumbers [] = 0 ≤ 0
AllNumbers (d ∷ ds) = Numbers d.adapters × AllNumbers ds

-- how many path registers there are
abbrev in_adapters : List Adapter → ℕ
in_adapters [] = 0
in_adapters (a ∷ xs) = length a.entries + in_adapters xs

abbrev in_devices : List Device → ℕ
in_devices [] = 0
in_devices (d ∷ ds) = in_adapters d.adapters + in_devices ds

-- from n words
record Gathers (n : ℕ) (g : Gathered) : Type 0 where
  entries : Offsets g.entries
  adapters : Numbers g.adapters
  devices : AllNumbers g.devices
  count : 4 * (length g.entries + in_adapters g.adapters + in_devices g.devices) ≤ n

abbrev sizes : List Group → ℕ
sizes [] = 0
sizes (g ∷ gs) = size_by g + sizes gs

module _ (w a b c m : ℕ) (g : Gathered) (h : Gathers m g) where
  with_register_lem : (r : Bool) → Gathers (4 + m) (cond r
      (record { registers = register_in w a b c ∷ g.registers; entries = g.entries; adapters = g.adapters; devices = g.devices })
      (record { registers = g.registers; entries = register_in w a b c ∷ g.entries; adapters = g.adapters; devices = g.devices }))
  unfolding register_in register_of
  with_register_lem true = record { entries = h.entries; adapters = h.adapters; devices = h.devices; count = omega (arith, h.count) }
  with_register_lem false = record { entries = (omega arith, h.entries); adapters = h.adapters; devices = h.devices; count = omega (arith, h.count) }

  with_adapter_lem : (n : ℕ) → m ≤ n → Gathers n (with_adapter w g)
  unfolding with_adapter
  with_adapter_lem n l = record { entries = omega arith; adapters = (omega arith, h.entries, h.adapters); devices = h.devices; count = omega (arith, h.count) }

  by_kind : (d n r : Bool) → Gathers (cond (d || r) 4 1 + m) (cond d (with_device w a b c g) (cond n (with_adapter w g) (cond r (with_register (bits w 16 16) (register_in w a b c) g) g)))
  unfolding with_device with_register
  by_kind true n r = record { entries = omega arith; adapters = omega arith; devices = (h.adapters, h.devices); count = omega (arith, h.count) }
  by_kind false true true = with_adapter_lem (4 + m) (omega arith)
  by_kind false true false = with_adapter_lem (1 + m) (omega arith)
  by_kind false false true = with_register_lem (eqb (bits w 16 16) 0)
  by_kind false false false = record { entries = h.entries; adapters = h.adapters; devices = h.devices; count = omega (arith, h.count) }

gathers : (gs : List Group) → Gathers (sizes gs) (gather gs)
unfolding gather with_group size_by size_of is_long
gathers [] = record { entries = omega arith; adapters = omega arith; devices = omega arith; count = omega arith }
gathers (cut ∷ gs) = let h = gathers gs in record { entries = h.entries; adapters = h.adapters; devices = h.devices; count = omega (arith, h.count) }
gathers (group w a b c ∷ gs) = by_kind w a b c (sizes gs) (gather gs) (gathers gs) (eqb (kind w) 3) (eqb (kind w) 4) (eqb (kind w) 5)

sizes_short : (s : List ℕ) → sizes (groups_of s) ≤ length s
unfolding groups_of size_by size_of
sizes_short [] = omega arith
sizes_short (w ∷ []) = step (is_long w) refl
  where
    step : (l : Bool) → is_long w ≡ l → sizes (cond l (cut ∷ []) (group w 0 0 0 ∷ [])) ≤ 1
    step true e = omega arith
    step false e = omega (arith, ap {B = ℕ} (λ b. cond b 4 1) e)
sizes_short (w ∷ a ∷ []) = step (is_long w) refl (sizes_short (a ∷ []))
  where
    step : (l : Bool) → is_long w ≡ l → sizes (groups_of (a ∷ [])) ≤ 1 → sizes (cond l (cut ∷ []) (group w 0 0 0 ∷ groups_of (a ∷ []))) ≤ 2
    step true e h = omega arith
    step false e h = omega (arith, ap {B = ℕ} (λ b. cond b 4 1) e)
sizes_short (w ∷ a ∷ b ∷ []) = step (is_long w) refl (sizes_short (a ∷ b ∷ []))
  where
    step : (l : Bool) → is_long w ≡ l → sizes (groups_of (a ∷ b ∷ [])) ≤ 2 → sizes (cond l (cut ∷ []) (group w 0 0 0 ∷ groups_of (a ∷ b ∷ []))) ≤ 3
    step true e h = omega arith
    step false e h = omega (arith, ap {B = ℕ} (λ b. cond b 4 1) e)
sizes_short (w ∷ a ∷ b ∷ c ∷ s) = step (is_long w) refl (sizes_short s) (sizes_short (a ∷ b ∷ c ∷ s))
  where
    step : (l : Bool) → is_long w ≡ l → sizes (groups_of s) ≤ length s → sizes (groups_of (a ∷ b ∷ c ∷ s)) ≤ suc (suc (suc (length s))) → sizes (cond l (group w a b c ∷ groups_of s) (group w 0 0 0 ∷ groups_of (a ∷ b ∷ c ∷ s))) ≤ suc (suc (suc (suc (length s))))
    step true e h k = omega (arith, ap {B = ℕ} (λ b. cond b 4 1) e)
    step false e h k = omega (arith, ap {B = ℕ} (λ b. cond b 4 1) e)

-- at most a fourth of the words that a survey has room for
abbrev Surveyed : List Device → Type 0
Surveyed ds = AllNumbers ds × (in_devices ds ≤ 4096)

surveyed : (s : List ℕ) → Holds Surveyed (read_survey s)
unfolding read_survey devices_of check_of
surveyed s =
    let h = gathers (groups_of s) in
    holds_bind {P = λ ok. length s ≤ 16384} (check_of s) (λ ok. value (devices_of s))
    (holds_cond (ltb max_words (length s)) (refused 4 (max_words ∷ [])) (first_bad 0 start (groups_of s)) (λ t. holds_refused) (λ t. holds_map holds_any (λ ok z. ltb-false max_words (length s) t)))
    (λ ok l. holds_value (h.devices, omega (arith, h.count, sizes_short s)))

-- ---- entries of path registers

abbrev Narrow : List PathEntry → Type 0
Narrow [] = 0 ≤ 0
Narrow (e ∷ es) = (e.in_hop < 65536) × (e.out_adapter < 256) × (e.out_hop < 65536) × Narrow es

record Read (n : ℕ) (es : List PathEntry) : Type 0 where
  narrow : Narrow es
  count : length es ≤ n

abbrev OneRead : Option PathEntry → Type 0
OneRead None = 0 ≤ 0
OneRead (Some e) = (e.in_hop < 65536) × (e.out_adapter < 256) × (e.out_hop < 65536)

one_read : (s : Site) (r : Register) (d : Option Description) → r.offset < 65536 → Holds OneRead (entry_of s r d)
unfolding entry_of entry_in
one_read s r d l = holds_bind (wanted_flag s r d (bytes_of "Valid")) (λ valid. entry_in s r d valid) holds_any (λ valid z. by_flag d valid)
  where
    by_flag : (d : Option Description) (valid : Bool) → Holds OneRead (entry_in s r d valid)
    by_flag None valid = holds_value (omega arith)
    by_flag (Some d) false = holds_value (omega arith)
    by_flag (Some d) true = holds_bind _ _ holds_any (λ hop z. holds_bind _ _ holds_any (λ out z. holds_value (omega arith, omega arith, omega arith)))

with_read : (n : ℕ) (e : Option PathEntry) (es : List PathEntry) → OneRead e → Read n es → Read (suc n) (with_entry e es)
unfolding with_entry
with_read n None es h k = record { narrow = k.narrow; count = omega (arith, k.count) }
with_read n (Some e) es h k = record { narrow = (h.0, h.1, h.2, k.narrow); count = omega (arith, k.count) }

module _ (ds : List Description) (s : Site) (k least : ℕ) where
  read_from : (rs : List Register) → Offsets rs → Holds (Read (length rs)) (entries_from ds s k least rs)
  unfolding entries_from
  read_from [] h = holds_value (record { narrow = omega arith; count = omega arith })
  read_from (r ∷ rs) h =
      let rest = read_from rs h.1 in
      holds_cond (leb (2 * least) r.offset && eqb (r.offset % 2) 0) _ (entries_from ds s k least rs)
      (λ t. holds_bind (entry_of s r (named ds path_space k r)) _ (one_read s r (named ds path_space k r) h.0) (λ e he. holds_bind (entries_from ds s k least rs) _ rest (λ es hs. holds_value (with_read (length rs) e es he hs))))
      (λ t. holds_map rest (λ es hs. record { narrow = hs.narrow; count = omega (arith, hs.count) }))

read_of : (ds : List Description) (s : Site) (a : Adapter) → Offsets a.entries → Holds (Read (length a.entries)) (entries_of ds s a)
unfolding entries_of entries_by
read_of ds s a h = by_least (min_hop (kind_of a))
  where
    by_least : (m : Option ℕ) → Holds (Read (length a.entries)) (entries_by ds s (type_number (kind_of a)) a.entries m)
    by_least None = holds_value (record { narrow = omega arith; count = omega arith })
    by_least (Some least) = read_from ds s (type_number (kind_of a)) least a.entries h

-- ---- rows

-- an entry whose hop a path's words have room for
pub record Fits (e : EntryRow) : Type 0 where
  pub adapter : e.adapter < 256
  pub in_hop : e.in_hop < 65536
  pub out_adapter : e.out_adapter < 256
  pub out_hop : e.out_hop < 65536

abbrev pub AllFit : List EntryRow → Type 0
AllFit [] = 0 ≤ 0
AllFit (e ∷ es) = Fits e × AllFit es

pub fit_append : (xs ys : List EntryRow) → AllFit xs → AllFit ys → AllFit (xs ++ ys)
fit_append [] ys h k = k
fit_append (x ∷ xs) ys h k = (h.0, fit_append xs ys h.1 k)

record Rowed (n : ℕ) (x : Rows) : Type 0 where
  entries : AllFit x.entries
  count : length x.entries ≤ n

rowed_then : (n m : ℕ) (x y : Outcome Rows) → Holds (Rowed n) x → Holds (Rowed m) y → Holds (Rowed (n + m)) (and_then x y)
unfolding and_then joined
rowed_then n m x y h k =
    holds_bind x _ h (λ r v. holds_bind y _ k (λ q w. holds_value (record { entries = fit_append r.entries q.entries v.entries w.entries; count = omega (arith, length-append r.entries q.entries, v.count, w.count) })))

owned_fit : (p n : ℕ) (es : List PathEntry) → n < 256 → Narrow es → AllFit (map (owned p n) es)
unfolding owned
owned_fit p n [] l h = h
owned_fit p n (e ∷ es) l h = (record { adapter = l; in_hop = h.0; out_adapter = h.1; out_hop = h.2 }, owned_fit p n es l h.3)

module _ (ds : List Description) (p : ℕ) (usb4 : Bool) where
  decoded : (a : Adapter) → Holds (λ x. x.number ≡ a.number) (decode_of ds p usb4 a)
  unfolding decode_of row_of
  decoded a = holds_cond (few_registers a) _ _ (λ t. holds_fault _) (λ t. holds_bind (parse_state ds (adapter_site p a.number) a) _ holds_any (λ st z. holds_value refl))

  adapter_rowed : (a : Adapter) → a.number < 256 → Offsets a.entries → Holds (Rowed (length a.entries)) (load_adapter ds p usb4 a)
  unfolding load_adapter own_rows
  adapter_rowed a l h =
      holds_bind (decode_of ds p usb4 a) _ (decoded a)
      (λ x e. holds_cond (eqb a.paths missing && not x.lane1) _ _ (λ t. holds_fault _)
      (λ t. holds_bind (entries_of ds (adapter_site p a.number) a) _ (read_of ds (adapter_site p a.number) a h)
      (λ es k. holds_value (record { entries = owned_fit p x.number es (omega (arith, e)) k.narrow; count = omega (arith, length-map es (owned p x.number), k.count) }))))

  adapters_rowed : (xs : List Adapter) → Numbers xs → Holds (Rowed (in_adapters xs)) (load_adapters ds p usb4 xs)
  unfolding load_adapters
  adapters_rowed [] h = holds_value (record { entries = omega arith; count = omega arith })
  adapters_rowed (a ∷ xs) h = rowed_then (length a.entries) (in_adapters xs) _ _ (adapter_rowed a h.0 h.1) (adapters_rowed xs h.2)

device_rowed : (ds : List Description) (p : ℕ) (d : Device) → Numbers d.adapters → Holds (Rowed (in_adapters d.adapters)) (load_device ds p d)
unfolding load_device device_rows
device_rowed ds p d h =
    holds_cond (no_registers d) _ _ (λ t. holds_fault _)
    (λ t. holds_bind (fits ds p d d.adapters) _ holds_any
    (λ ok z. holds_map (rowed_then 0 (in_adapters d.adapters) (value (device_rows ds p d)) _ (holds_value (record { entries = omega arith; count = omega arith })) (adapters_rowed ds p d.usb4 d.adapters h)) (λ x w. record { entries = w.entries; count = omega (arith, w.count) })))

from_rowed : (ds : List Description) (devices : List Device) (p : ℕ) → AllNumbers devices → Holds (Rowed (in_devices devices)) (load_from ds p devices)
unfolding load_from
from_rowed ds [] p h = holds_value (record { entries = omega arith; count = omega arith })
from_rowed ds (d ∷ devices) p h = rowed_then (in_adapters d.adapters) (in_devices devices) _ _ (device_rowed ds p d h.0) (from_rowed ds devices (suc p) h.1)

loaded_rowed : (t s : List ℕ) → Holds (Rowed 4096) (loaded t s)
unfolding loaded
loaded_rowed t s =
    holds_bind (read_descriptions t) _ holds_any
    (λ ds z. holds_bind (read_survey s) _ (surveyed s)
    (λ devices h. holds_map (from_rowed ds devices 0 h.0) (λ x w. record { entries = w.entries; count = omega (arith, w.count, h.1) })))

pub entries_fit : (t s : List ℕ) (x : Rows) → loaded t s ≡ value x → AllFit x.entries
entries_fit t s x e = ((loaded_rowed t s).by x e).entries

pub entries_few : (t s : List ℕ) (x : Rows) → loaded t s ≡ value x → length x.entries ≤ 4096
entries_few t s x e = ((loaded_rowed t s).by x e).count
