-- Laws on rows that are loaded one part after another: what is so far and what is left give the whole. Assumes nothing.
use Rattle.std.specs.Prelude.{Err, Result, Option, Ok}
use Prim.Native.Nat.{ℕ, suc, ◌+◌, ◌*◌, ◌/◌, ◌%◌, ◌≤◌, ◌<◌}
use native.Mathlib.Omega.{arith}
use native.Mathlib.Decide.{dec_lt}
use mathlib.Core.Path.{◌≡◌, refl, ◌∙◌, ap, sym}
use mathlib.Core.Bool.{Bool, true, false, cond, ◌&&◌, true≢false}
use mathlib.Core.List.{List, [], ◌∷◌, append_assoc, append-nil}
use lib.Dec.{eqb}
use lib.ListN.{length, length-append}
use borrow.Author.Tests.{eq-eqb, ne_eqb}
use Rattle.refusal.specs.Outcome.{Outcome, refused, value, bind}
use Rattle.refusal.specs.Refusal.{refusal_of, outcome_by, fault_outcome, outcome, field_at}
use Rattle.refusal.proofs.Laws.{fault_bind, refused_bind, ended}
use Rattle.refusal.specs.declared.Fault.{Fault}
use Rattle.refusal.specs.declared.Fault.TheVariants.{FewRegisters}
use Rattle.refusal.specs.declared.FieldError.{FieldError}
use Rattle.refusal.specs.declared.Refusal.{Refusal}
use Rattle.refusal.specs.declared.Refusal.TheVariants as refusal
use Rattle.layout.specs.Layout.{bits, word, kind}
use Rattle.layout.specs.Description.{Description, descriptions_of}
use Rattle.description.specs.Rules as description
use Rattle.survey.specs.Rules as survey
use Rattle.survey.proofs.Laws.{too_long}
use Rattle.survey.specs.Devices.{Adapter, Device, devices_of, read_survey}
use Rattle.named.specs.Named.{Named}
use Rattle.listing.specs.After.{after, listed, register_at, adapter_at, device_at, NextHead, NextRegister}
use Rattle.listing.proofs.Laws.{after_end, adapter_head_lem, device_head_lem, register_end}
use Rattle.usb4.specs.Codes.{device_kind_of}
use Rattle.usb4.specs.declared.Kind.{Kind}
use Rattle.adapter.specs.Adapter.{AdapterRow, adapter_site}
use Rattle.tables.specs.Rows.{EntryRow, DeviceRow, Rows, no_rows, joined}
use Rattle.tables.specs.Packed.{device_row as row_at}
use Rattle.tables.specs.declared.DeviceFacts.{DeviceFacts}
use Rattle.load.specs.Loading.{itself, and_then, load_adapter, load_adapters, router_cs1, upstream_in, device_row, device_rows, fits, no_registers, load_device, load_from, loaded}
use Rattle.load.specs.Answers.{answered}
use Rattle.load.specs.Work.{one_entry, one_adapter, one_device, Room, Passed, ToDevice, fits_by}
use Rattle.load.proofs.Counting.{device_more}

-- ---- rows and outcomes

pub joined_assoc : (a b c : Rows) → joined (joined a b) c ≡ joined a (joined b c)
unfolding joined
joined_assoc a b c = rw (append_assoc a.entries b.entries c.entries, append_assoc a.adapters b.adapters c.adapters, append_assoc a.devices b.devices c.devices) refl

joined_none : (a : Rows) → joined a no_rows ≡ a
unfolding joined
joined_none a = rw (append-nil a.entries, append-nil a.adapters, append-nil a.devices) refl

then_values : (a b : Rows) → and_then (value a) (value b) ≡ value (joined a b)
unfolding and_then bind
then_values a b = refl

pub then_fault : (a : Rows) (f : Fault) → and_then (value a) (refusal_of f) ≡ refusal_of f
unfolding and_then bind
then_fault a f = fault_bind f (λ y. value (joined a y))

pub fault_then : (f : Fault) (b : Outcome Rows) → and_then (refusal_of f) b ≡ refusal_of f
unfolding and_then
fault_then f b = fault_bind f (λ x. bind b (λ y. value (joined x y)))

pub then_none : (a : Rows) → and_then (value a) (value no_rows) ≡ value a
then_none a = then_values a no_rows ∙ ap (λ x. value x) (joined_none a)

pub none_then : (b : Outcome Rows) → and_then (value no_rows) b ≡ b
unfolding and_then bind joined
none_then (refused n vs) = refl
none_then (value b) = refl

pub then_assoc : (a b c : Outcome Rows) → and_then (and_then a b) c ≡ and_then a (and_then b c)
unfolding and_then bind
then_assoc (refused n vs) b c = refl
then_assoc (value a) (refused n vs) c = refl
then_assoc (value a) (value b) (refused n vs) = refl
then_assoc (value a) (value b) (value c) = ap (λ x. value x) (joined_assoc a b c)

pub then_joined : (a b : Rows) (c : Outcome Rows) → and_then (value (joined a b)) c ≡ and_then (value a) (and_then (value b) c)
then_joined a b c = ap (λ x. and_then x c) (sym (then_values a b)) ∙ then_assoc (value a) (value b) c

-- ---- one part after another

-- what the rows x and the part `first` come to is what q answers, with the rows y: then so far are y, or the whole is refused
module _ {A E : Type 0} (r : E → Fault) (q : Result A E) (x y : Rows) (first rest whole : Outcome Rows) (all : and_then (value x) (and_then first rest) ≡ whole) (same : answered (outcome_by (λ e. refusal_of (r e)) q) y ≡ and_then (value x) first) where
  after_part : and_then (answered (outcome_by (λ e. refusal_of (r e)) q) y) rest ≡ whole
  after_part = ap (λ o. and_then o rest) same ∙ then_assoc (value x) first rest ∙ all

  pub part_refused : (B : Type 0) (e : E) → q ≡ Err e → (z : Rows) → answered (refusal_of {A = B} (r e)) z ≡ whole
  part_refused B e k z =
      fault_bind (r e) (λ b. value z)
      ∙ sym (ap (λ o. and_then o rest) (fault_bind (r e) (λ a. value y)) ∙ fault_then (r e) rest)
      ∙ ap (λ p. and_then (answered (outcome_by (λ e. refusal_of (r e)) p) y) rest) (sym k)
      ∙ after_part

  pub part_put : (a : A) → q ≡ Ok a → and_then (value y) rest ≡ whole
  unfolding bind
  part_put a k = ap (λ p. and_then (answered (outcome_by (λ e. refusal_of (r e)) p) y) rest) (sym k) ∙ after_part

-- ---- room

module _ (t : List ℕ) (i : ℕ) (x : Rows) (r : Room t i x) where
  room_on : (j : ℕ) → i ≤ j → j ≤ length t → Room t j x
  room_on j f l = record { short = r.short; within = l; entries = omega (arith, r.entries, f); adapters = omega (arith, r.adapters, f); devices = omega (arith, r.devices, f) }

  put : (j : ℕ) (z y : Rows) → j ≤ length t → i + 4 * length z.entries ≤ j → i + length z.adapters ≤ j → i + 4 * length z.devices ≤ j → y ≡ joined x z → Room t j y
  unfolding joined
  put j z y l e a d k = rw k (record {
    short = r.short;
    within = l;
    entries = omega (arith, r.entries, e, length-append x.entries z.entries);
    adapters = omega (arith, r.adapters, a, length-append x.adapters z.adapters);
    devices = omega (arith, r.devices, d, length-append x.devices z.devices);
  })

  pub room_entry : i + 4 ≤ length t → (e : EntryRow) (y : Rows) → y ≡ joined x (one_entry e) → Room t (i + 4) y
  room_entry l e y k = put (i + 4) (one_entry e) y l (omega arith) (omega arith) (omega arith) k

  pub room_adapter : i < length t → (a : AdapterRow) (y : Rows) → y ≡ joined x (one_adapter a) → Room t (i + 1) y
  room_adapter l a y k = put (i + 1) (one_adapter a) y (omega (arith, l)) (omega arith) (omega arith) (omega arith) k

  pub room_device : i + 4 ≤ length t → (d : DeviceRow) (y : Rows) → y ≡ joined x (one_device d) → Room t (i + 4) y
  room_device l d y k = put (i + 4) (one_device d) y l (omega arith) (omega arith) (omega arith) k

-- the next head isn't before where it was looked for
pub next_past : (t : List ℕ) (i r : ℕ) → NextHead t i r → i ≤ length t → i ≤ r
next_past t i r n h = go (dec_lt r (length t))
  where
    go : Dec (r < length t) → i ≤ r
    go (yes l) = n.forward l
    go (no l) = omega arith

-- ---- the adapters of a device

-- the rows x of what stands before i, and the adapters from i on, give the whole
pub record Adapting (ds : List Description) (p : ℕ) (usb4 : Bool) (t : List ℕ) (from : ℕ) (whole : Outcome Rows) (x : Rows) (i : ℕ) : Type 0 where
  pub room : Room t i x
  pub forward : from ≤ i
  pub rest : and_then (value x) (load_adapters ds p usb4 (after t i).adapters) ≡ whole
  pub devices : (after t from).devices ≡ (after t i).devices
  pub head : i < length t → (kind (word t i) ≡ 4 → ⊥) → (kind (word t i) ≡ 3) × (i + 4 ≤ length t)

module _ (ds : List Description) (p : ℕ) (usb4 : Bool) (t : List ℕ) (from : ℕ) where
  pub adapting_start : (x : Rows) (i : ℕ) → Room t from x → NextHead t from i → Adapting ds p usb4 t from (and_then (value x) (load_adapters ds p usb4 (after t from).adapters)) x i
  adapting_start x i r next =
      let f = next_past t from i next r.within in
      record { room = room_on t from x r i f next.within; forward = f; rest = ap (λ l. and_then (value x) (load_adapters ds p usb4 l)) (sym next.adapters); devices = next.devices; head = next.head }

  module _ (whole : Outcome Rows) (x : Rows) (i : ℕ) (b : Adapting ds p usb4 t from whole x i) where
    -- no more adapters of the device
    adapting_end : (after t i).adapters ≡ [] → (i < length t → (kind (word t i) ≡ 3) × (i + 4 ≤ length t)) → (answered (value i) x ≡ whole) × ToDevice t from x i
    unfolding bind load_adapters
    adapting_end none head = (
      sym (then_none x) ∙ ap (λ l. and_then (value x) (load_adapters ds p usb4 l)) (sym none) ∙ b.rest,
      record { room = b.room; forward = b.forward; devices = b.devices; head = head },
    )

    pub adapting_past : length t ≤ i → (answered (value i) x ≡ whole) × ToDevice t from x i
    adapting_past h = adapting_end (ap (λ g. g.adapters) (after_end t i h)) (λ l. absurd (omega arith))

    pub adapting_device : i < length t → (kind (word t i) ≡ 4 → ⊥) → (answered (value i) x ≡ whole) × ToDevice t from x i
    adapting_device here n =
        let k = b.head here n in
        adapting_end (device_head_lem t i k.0 k.1).0 (λ l. k)

    -- one more adapter
    module _ (here : i < length t) (k : kind (word t i) ≡ 4) (y : Rows) (q : Result ℕ Fault) (same : answered (fault_outcome q) y ≡ and_then (value x) (load_adapter ds p usb4 (adapter_at t i))) where
      this_adapter : and_then (value x) (and_then (load_adapter ds p usb4 (adapter_at t i)) (load_adapters ds p usb4 (after t (i + 1)).adapters)) ≡ whole
      unfolding load_adapters
      this_adapter = ap (λ l. and_then (value x) (load_adapters ds p usb4 l)) (sym (adapter_head_lem t i here k).0) ∙ b.rest

      pub adapting_fault : (f : Fault) → q ≡ Err f → (z : Rows) → answered (refusal_of {A = ℕ} f) z ≡ whole
      adapting_fault f e z = part_refused (λ f. f) q x y _ _ whole this_adapter same ℕ f e z

      pub adapting_next : (next j : ℕ) → q ≡ Ok next → Passed t (i + 1) y next → NextHead t next j → (i < j) × Adapting ds p usb4 t from whole y j
      adapting_next next j e g n =
          let f = next_past t next j n g.room.within in (
            omega (arith, g.forward, f),
            record {
              room = room_on t next y g.room j f n.within;
              forward = omega (arith, b.forward, g.forward, f);
              rest = ap (λ l. and_then (value y) (load_adapters ds p usb4 l)) (sym (g.adapters ∙ n.adapters)) ∙ part_put (λ f. f) q x y _ _ whole this_adapter same next e;
              devices = b.devices ∙ (adapter_head_lem t i here k).1 ∙ g.devices ∙ n.devices;
              head = n.head;
            },
          )

-- ---- a device

-- whether its registers were read and there are none
module _ (t : List ℕ) (at w : ℕ) (e : w ≡ word t at) where
  module _ (k : w / 2 % 2 ≡ 1) (r : ℕ) (n : NextRegister t false (at + 4) r) where
    device_read : eqb (bits (word t at) 1 1) 1 ≡ true
    device_read = eq-eqb (bits (word t at) 1 1) 1 (ap (λ x. x / 2 % 2) (sym e) ∙ k)

    pub registers_none : length t ≤ r → no_registers (device_at t at) ≡ true
    unfolding no_registers device_at listed
    registers_none h = ap (λ b. b && eqb (length (after t (at + 4)).registers) 0) device_read ∙ ap (λ l. eqb (length l) 0) (register_end t false (at + 4) r n h)

    pub registers_some : r < length t → no_registers (device_at t at) ≡ false
    unfolding no_registers device_at listed
    registers_some h = ap (λ b. b && eqb (length (after t (at + 4)).registers) 0) device_read ∙ ap (λ l. eqb (length l) 0) (n.same ∙ n.here h) ∙ ne_eqb (length (register_at t r ∷ listed false (after t (r + 4)))) 0 (λ q. omega arith)

  pub registers_unread : (w / 2 % 2 ≡ 1 → ⊥) → no_registers (device_at t at) ≡ false
  unfolding no_registers device_at
  registers_unread k = ap (λ b. b && eqb (length (after t (at + 4)).registers) 0) (ne_eqb (bits (word t at) 1 1) 1 (λ q. k (ap (λ x. x / 2 % 2) e ∙ q)))

  pub same_usb4 : eqb (w % 2) 1 ≡ (device_at t at).usb4
  unfolding device_at
  same_usb4 = ap (λ x. eqb x 1) (let z : w % 2 ≡ bits (word t at) 0 0 = omega (arith, e) in z)

  -- its row
  pub device_told : (ds : List Description) (p : ℕ) (kind : Kind) (domain low high : ℕ) (up : Result (Option ℕ) FieldError) → kind ≡ device_kind_of (w / 16777216 % 16) → domain ≡ word t (at + 1) → low ≡ word t (at + 2) → high ≡ word t (at + 3) → field_at (adapter_site p 0) up ≡ upstream_in p (router_cs1 ds (device_at t at))
      → row_at p (record { kind = kind; usb4 = eqb (w % 2) 1; domain = domain; route = low + high * 4294967296; upstream = up }) ≡ device_row ds p (device_at t at)
  unfolding device_row device_at row_at
  device_told ds p kind domain low high up k d l h u =
      rw (k, d, l, h, u, same_usb4, e) refl

pub fits_by_lem : (ds : List Description) (p : ℕ) (d : Device) (as' : List Adapter) → fits ds p d as' ≡ fits_by p as' (router_cs1 ds d)
unfolding fits fits_by
fits_by_lem ds p d [] = refl
fits_by_lem ds p d (a ∷ rest) = refl

-- the rows x, and then a device, whose place p is the number of devices in x
module _ (ds : List Description) (t : List ℕ) (at : ℕ) (x : Rows) (p : ℕ) (place : p ≡ length x.devices) where
  abbrev it : Device
  it = device_at t at

  abbrev parts : Outcome Rows
  parts = and_then (value (device_rows ds p it)) (load_adapters ds p it.usb4 it.adapters)

  abbrev loads : Outcome Rows
  loads = and_then (value x) (load_device ds (length x.devices) it)

  by_registers : (b : Bool) → no_registers it ≡ b → and_then (value x) (cond b (refusal_of (FewRegisters (itself p))) (bind (fits ds p it it.adapters) (λ ok. parts))) ≡ loads
  unfolding load_device
  by_registers b h =
      ap (λ b. and_then (value x) (cond b (refusal_of (FewRegisters (itself p))) (bind (fits ds p it it.adapters) (λ ok. parts)))) (sym h)
      ∙ ap (λ n. and_then (value x) (load_device ds n it)) place

  refuses : (f : Fault) (z : Rows) → answered (refusal_of {A = ℕ} f) z ≡ and_then (value x) (refusal_of f)
  refuses f z = fault_bind f (λ b. value z) ∙ sym (then_fault x f)

  pub device_few : no_registers it ≡ true → (z : Rows) → answered (refusal_of {A = ℕ} (FewRegisters (itself p))) z ≡ loads
  device_few h z = refuses (FewRegisters (itself p)) z ∙ by_registers true h

  -- whether its adapters fit, by ROUTER_CS_1
  module _ (some : no_registers it ≡ false) (n : Option Named) (r : Result Unit Fault) (told : fault_outcome r ≡ fits_by p (after t (at + 4)).adapters n) (known : n ≡ router_cs1 ds it) where
    by_fits : (o : Result Unit Fault) → r ≡ o → and_then (value x) (bind (fault_outcome o) (λ ok. parts)) ≡ loads
    unfolding device_at
    by_fits o e =
        ap (λ f. and_then (value x) (bind f (λ ok. parts))) (ap (λ q. fault_outcome q) (sym e) ∙ told ∙ ap (λ m. fits_by p it.adapters m) known ∙ sym (fits_by_lem ds p it it.adapters))
        ∙ by_registers false some

    pub device_unfit : (f : Fault) → r ≡ Err f → (z : Rows) → answered (refusal_of {A = ℕ} f) z ≡ loads
    device_unfit f e z = refuses f z ∙ ap (λ o. and_then (value x) o) (sym (fault_bind f (λ ok. parts))) ∙ by_fits (Err f) e

    -- its row, and then what its adapters come to
    pub device_put : (u : Unit) → r ≡ Ok u → (y : Rows) (d : DeviceFacts) → y ≡ joined x (one_device (row_at (length x.devices) d)) → row_at p d ≡ device_row ds p it → (usb4 : Bool) → usb4 ≡ it.usb4 → (o : Outcome Rows) → o ≡ and_then (value y) (load_adapters ds p usb4 (after t (at + 4)).adapters) → o ≡ loads
    unfolding bind device_rows device_at
    device_put u e y d k m usb4 v o q =
        q ∙ ap (λ b. and_then (value y) (load_adapters ds p b it.adapters)) v
        ∙ ap (λ z. and_then (value z) (load_adapters ds p it.usb4 it.adapters)) (k ∙ ap (λ n. joined x (one_device (row_at n d))) (sym place) ∙ ap (λ w. joined x (one_device w)) m)
        ∙ then_joined x (device_rows ds p it) (load_adapters ds p it.usb4 it.adapters)
        ∙ by_fits (Ok u) e

-- ---- all devices

-- the rows x of the devices before i, and the devices from i on, give the whole
pub record Filling (ds : List Description) (t : List ℕ) (whole : Outcome Rows) (x : Rows) (i : ℕ) : Type 0 where
  pub room : Room t i x
  pub rest : and_then (value x) (load_from ds (length x.devices) (after t i).devices) ≡ whole
  pub head : i < length t → (kind (word t i) ≡ 4 → ⊥) → (kind (word t i) ≡ 3) × (i + 4 ≤ length t)

module _ (ds : List Description) (t : List ℕ) where
  pub filling_start : (x : Rows) (i : ℕ) → x ≡ no_rows → length t ≤ 16384 → NextHead t 0 i → Filling ds t (load_from ds 0 (devices_of t)) x i
  unfolding after devices_of
  filling_start x i k short n = rw k (record {
    room = record { short = short; within = n.within; entries = omega arith; adapters = omega arith; devices = omega arith };
    rest = none_then (load_from ds 0 (after t i).devices) ∙ ap (λ l. load_from ds 0 l) (sym n.devices);
    head = n.head;
  })

  module _ (whole : Outcome Rows) (x : Rows) (i : ℕ) (b : Filling ds t whole x i) where
    -- an adapter before the first device is passed over
    pub filling_adapter : (j : ℕ) → i < length t → kind (word t i) ≡ 4 → NextHead t (i + 1) j → (i < j) × Filling ds t whole x j
    filling_adapter j here k n =
        let f = next_past t (i + 1) j n (omega arith) in (
          omega (arith, f),
          record {
            room = room_on t i x b.room j (omega (arith, f)) n.within;
            rest = ap (λ l. and_then (value x) (load_from ds (length x.devices) l)) (sym ((adapter_head_lem t i here k).1 ∙ n.devices)) ∙ b.rest;
            head = n.head;
          },
        )

    pub filling_end : length t ≤ i → {A : Type 0} (a : A) → answered (value a) x ≡ whole
    unfolding bind load_from
    filling_end h a = sym (then_none x) ∙ ap (λ g. and_then (value x) (load_from ds (length x.devices) g.devices)) (sym (after_end t i h)) ∙ b.rest

    -- one more device
    module _ (here : i < length t) (k : kind (word t i) ≡ 4 → ⊥) (y : Rows) (q : Result ℕ Fault) (same : answered (fault_outcome q) y ≡ and_then (value x) (load_device ds (length x.devices) (device_at t i))) where
      this_device : and_then (value x) (and_then (load_device ds (length x.devices) (device_at t i)) (load_from ds (suc (length x.devices)) (after t (i + 4)).devices)) ≡ whole
      unfolding load_from
      this_device =
          let h = b.head here k in
          ap (λ l. and_then (value x) (load_from ds (length x.devices) l)) (sym (device_head_lem t i h.0 h.1).1) ∙ b.rest

      pub filling_fault : (f : Fault) → q ≡ Err f → (z : Rows) → answered (refusal_of {A = Unit} f) z ≡ whole
      filling_fault f e z = part_refused (λ f. f) q x y _ _ whole this_device same Unit f e z

      pub filling_next : (next : ℕ) → q ≡ Ok next → ToDevice t (i + 4) y next → (i < next) × Filling ds t whole y next
      unfolding bind
      filling_next next e g =
          let n = device_more ds (length x.devices) (device_at t i) x y (ap (λ p. answered (fault_outcome p) y) (sym e) ∙ same) in (
            omega (arith, g.forward),
            record {
              room = g.room;
              rest =
                  ap (λ m. and_then (value y) (load_from ds m (after t next).devices)) n
                  ∙ ap (λ l. and_then (value y) (load_from ds (suc (length x.devices)) l)) (sym g.devices)
                  ∙ part_put (λ f. f) q x y _ _ whole this_device same next e;
              head = λ l m. g.head l;
            },
          )

-- ---- 3, then 4, then loading

is_value : {A : Type 0} → Outcome A → Bool
is_value (refused n vs) = false
is_value (value a) = true

-- a survey that is well formed isn't too long
pub short : (s : List ℕ) → value tt ≡ survey.check_of s → length s ≤ 16384
unfolding is_value
short s ok = go (dec_lt 16384 (length s))
  where
    go : Dec (16384 < length s) → length s ≤ 16384
    go (yes h) = absurd (true≢false (ap (λ o. is_value o) (ok ∙ sym (too_long s h))))
    go (no h) = omega arith

module _ (t s : List ℕ) where
  refused_with : (p : Refusal) (z : Rows) → outcome (Err p) ≡ loaded t s → answered (outcome {A = Unit} (Err p)) z ≡ loaded t s
  refused_with p z e = refused_bind p (λ b. value z) ∙ e

  pub into_descriptions : (q : Result Unit Refusal) (p : Refusal) → outcome q ≡ description.check_of t → q ≡ Err p → (z : Rows) → answered (outcome {A = Unit} (Err p)) z ≡ loaded t s
  unfolding loaded description.read_descriptions
  into_descriptions q p e k z = refused_with p z (ended (Err p) (description.read_descriptions t) (ended q (description.check_of t) e _ p k) _ p refl)

  module _ (good : value tt ≡ description.check_of t) where
    after_descriptions : bind (read_survey s) (λ devices. load_from (descriptions_of t) 0 devices) ≡ loaded t s
    unfolding loaded description.read_descriptions bind
    after_descriptions = ap (λ o. bind (bind o (λ ok. value (descriptions_of t))) (λ ds. bind (read_survey s) (λ devices. load_from ds 0 devices))) good

    pub into_survey : (q : Result Unit Refusal) (p : Refusal) → outcome q ≡ survey.check_of s → q ≡ Err p → (z : Rows) → answered (outcome {A = Unit} (Err p)) z ≡ loaded t s
    unfolding read_survey
    into_survey q p e k z = refused_with p z (ended (Err p) (read_survey s) (ended q (survey.check_of s) e _ p k) _ p refl ∙ after_descriptions)

    module _ (ok : value tt ≡ survey.check_of s) (q : Result Unit Fault) (y : Rows) (same : answered (fault_outcome q) y ≡ load_from (descriptions_of t) 0 (devices_of s)) where
      into_filled : (o : Result Unit Fault) → q ≡ o → answered (fault_outcome o) y ≡ loaded t s
      unfolding read_survey bind
      into_filled o e = ap (λ q. answered (fault_outcome q) y) (sym e) ∙ same ∙ ap (λ o. bind (bind o (λ ok. value (devices_of s))) (λ devices. load_from (descriptions_of t) 0 devices)) ok ∙ after_descriptions

      pub into_fault : (f : Fault) → q ≡ Err f → (z : Rows) → answered (outcome {A = Unit} (Err (refusal.Fault f))) z ≡ loaded t s
      into_fault f e z = refused_with (refusal.Fault f) z (sym (fault_bind f (λ a. value y)) ∙ into_filled (Err f) e)

      pub into_rows : (u : Unit) → q ≡ Ok u → answered (outcome (Ok u)) y ≡ loaded t s
      into_rows u e = into_filled (Ok u) e
